-- The theorems, for all terms, every memory that open accepts, and all calls.
-- Assumes nothing.
use Rattle.std.specs.Prelude.{Result, ℕ, ◌/◌, ◌≤◌, ◌<◌, ◌≡◌, refl, Bool, true, false, not, ◌≢◌, eqb, length, Some, Ok, Err}
use Rattle.std.proofs.Common.{ap, ◌∙◌, subst, inl, inr, arith, lt-ltb, le-ltb, ne_eqb}
use mathlib.Core.List.Memᴰ
use mathlib.Core.List.{List, [], ◌∷◌, Memᴰ}
use Rattle.std.proofs.Math.Decide.{dec_lt}
use Rattle.logic.specs.Pick.{pick}
use Rattle.logic.specs.BelowLaws.{below_fails}
use Rattle.numbers.specs.Cells.{cell_at}
use Rattle.acts.specs.Calls.{lengths_fit}
use Rattle.acts.specs.Lent.{lengths_fit_lem}
use Rattle.acts.specs.Worlds.{grid, Call, Accepted, opened_world}
use Rattle.quiet.specs.Quiet.{quarter_as}
use Rattle.quiet.specs.declared.Scan.TheVariants as Scan
use Rattle.quiet.specs.Quiet.{scan_of, reading_at}
use Rattle.summary.specs.declared.Hour.{Hour}
use Rattle.summary.specs.Summary.{hour_of, summary_of}
use Rattle.theory.specs.Array.{written}
use Rattle.theory.specs.Order.{Done, Entry, Is, deeds, value_in, written_in}
use Rattle.demands.specs.Types.{Refusal, Terms, State, Memory, Ask}
use Rattle.demands.specs.Book.{Run, run}
use Rattle.demands.specs.Demanded.{is_busy}
use Rattle.bridge.proofs.Views.{GoodRun}
use Rattle.bridge.proofs.Runs.{after_any_calls}
use Rattle.bridge.proofs.Proved as Proved
use Rattle.bridge.proofs.Theorems.{after}
use Rattle.resting.specs.AtRest.{Resting, rests_in, UnderWay, Tells, looked, filled, hour_in, summary_in, FiveOrEighteen, Shown, TenUnderWay}
use Rattle.resting.proofs.Cells as Cells
use Rattle.resting.proofs.Hours as Hours

good_shows : (r : Run State) → GoodRun r → Shown r.world.state.terms r
good_shows r H = by (rests_in z r.book) refl
  where
    z : Terms
    z = r.world.state.terms

    by : (b : Bool) → rests_in z r.book ≡ b → Shown z r
    by true e =
        let rest = Hours.rests_resting z r e in
        record {
          one_order = Cells.the_order H rest;
          at_rest = λ x. record {
            finished = Cells.all_finished H rest;
            written = Cells.written_shown H rest;
            reading = Cells.reading_shown H rest;
          };
          summary = Hours.summary_resting H rest e;
        }
    by false e = record {
      one_order = Proved.one_order H;
      at_rest = λ rest. absurd (let x = Hours.resting_rests z r rest in let y : ◌≡◌ {A = ℕ} 0 1 = cc in omega arith);
      summary = λ h. Hours.summary_busy H e h ∙ rw e;
    }

-- An operation under way is one that the test sees.
pub under_way : (z : Terms) (r : Run State) → UnderWay z r → rests_in z r.book ≡ false
under_way z r u = below_fails z.p u.0 (λ (q : ℕ). not (is_busy (r.book.doing q))) u.1 (ap not u.2)

module _ (z : Terms) (mem : Memory) (ok : Accepted grid z mem) (calls : List (Call Ask z)) where
  -- THE THEOREM
  pub shown : Shown z (after z mem ok calls)
  shown = after_any_calls z (Shown z) (λ r H. subst (λ (z : Terms). Shown z r) H.terms (good_shows r H.good)) mem ok calls

  abbrev pub state : State
  state = (after z mem ok calls).world.state

  abbrev pub memory : Memory
  memory = (after z mem ok calls).world.memory

  abbrev pub order : List Entry
  order = shown.one_order.order

  -- the array's values of the written cells of hour h
  abbrev pub values : ℕ → List ℕ
  values h = hour_in (filled z) order h

  -- What 9 (state), 10 and 8 look at.
  abbrev Scanned : Terms → Run State → Type 0
  Scanned z r = scan_of r.world.state ≡ pick (rests_in z r.book) Scan.AtRest Scan.AtWork

  abbrev Lent : Run State → Type 0
  Lent r = lengths_fit r.world.state.terms r.world.memory ≡ true

  pub scan_told : scan_of state ≡ pick (rests_in z (after z mem ok calls).book) Scan.AtRest Scan.AtWork
  scan_told = after_any_calls z (Scanned z) (λ r H. subst (λ (z : Terms). Scanned z r) H.terms (Hours.scan_told H.good)) mem ok calls

  pub lengths_told : lengths_fit state.terms memory ≡ true
  lengths_told = after_any_calls z Lent (λ r H. lengths_fit_lem H.good.lengths) mem ok calls

  -- 10 if an operation is under way, 5 if the hour is not there, 18 if none of its cells has a write; 9 and 8 do not occur.
  pub summary_exactly : (h : ℕ) → summary_of state h memory ≡ summary_in z (after z mem ok calls).book h (values h)
  summary_exactly = shown.summary

  pub summary_under_way : TenUnderWay z (after z mem ok calls)
  summary_under_way h u = summary_exactly h ∙ rw (under_way z (after z mem ok calls) u)

  module _ (rest : Resting z (after z mem ok calls)) where
    pub written_at_rest : (i : ℕ) → i < z.m → Tells (looked (after z mem ok calls) (cell_at z i)) (written_in order i)
    written_at_rest = (shown.at_rest rest).written

    pub reading_at_rest : (i : ℕ) → i < z.m → reading_at state (cell_at z i) memory ≡ Some (quarter_as (value_in (filled z) order i) (written_in order i))
    reading_at_rest = (shown.at_rest rest).reading

    -- the order of refusals from 18 on
    abbrev from_18 : List ℕ → Result Hour Refusal
    from_18 vs = pick (eqb (length vs) 0) (Err Refusal.NothingWritten) (Ok (hour_of vs))

    there : (h : ℕ) → h < z.m / 4 → summary_of state h memory ≡ from_18 (values h)
    there h hh = summary_exactly h ∙ rw (Hours.resting_rests z (after z mem ok calls) rest, lt-ltb h (z.m / 4) hh)

    pub summary_at_rest : (h : ℕ) → h < z.m / 4 → values h ≢ [] → summary_of state h memory ≡ Ok (hour_of (values h))
    summary_at_rest h hh some = there h hh ∙ by (values h) some
      where
        by : (vs : List ℕ) → vs ≢ [] → from_18 vs ≡ Ok (hour_of vs)
        by [] n = absurd (n refl)
        by (v ∷ vs) n = rw (ne_eqb (length (v ∷ vs)) 0 (λ x. let y : ⊥ = omega arith in y))

    pub nothing_at_rest : (h : ℕ) → h < z.m / 4 → values h ≡ [] → summary_of state h memory ≡ Err Refusal.NothingWritten
    nothing_at_rest h hh none = there h hh ∙ ap from_18 none

    pub no_hour_at_rest : (h : ℕ) → z.m / 4 ≤ h → summary_of state h memory ≡ Err Refusal.NoSuchCell
    no_hour_at_rest h hh = summary_exactly h ∙ rw (Hours.resting_rests z (after z mem ok calls) rest, le-ltb h (z.m / 4) hh)

    -- 9 (state), 8, 10 and 9 (word) do not occur.
    pub refused_with_five_or_eighteen : (h : ℕ) (r : Refusal) → summary_of state h memory ≡ Err r → FiveOrEighteen z h (values h) r
    refused_with_five_or_eighteen h r e = by (dec_lt h (z.m / 4)) (values h) refl
      where
        by : Dec (h < z.m / 4) → (vs : List ℕ) → values h ≡ vs → FiveOrEighteen z h (values h) r
        by (no k) vs y = let is = no_hour_at_rest h (omega arith) in inl (omega arith, cc)
        by (yes k) [] y = let is = nothing_at_rest h k y in inr (k, y, cc)
        by (yes k) (v ∷ vs) y =
            let is = summary_at_rest h k (λ x. absurd (let u : ◌≡◌ {A = ℕ} 0 1 = cc in omega arith)) in
            absurd (let u : ◌≡◌ {A = ℕ} 0 1 = cc in omega arith)

-- ---- a fresh grid

no_entries : (es : List Entry) → ((e : Entry) → Memᴰ e es → (d : Done) × Memᴰ d [] × Is e d) → es ≡ []
no_entries [] h = refl
no_entries (e ∷ es) h = absurd (Memᴰ.not-nil (h e (Memᴰ.head refl)).1)

no_values : (f : ℕ → ℕ) (h : ℕ) → hour_in f [] h ≡ []
unfolding written deeds
no_values f h = refl

-- 01's example 10: of a grid just opened, whatever its memory holds, every hour that is there gets 18.
pub fresh_grid : (z : Terms) (mem : Memory) (ok : Accepted grid z mem) (h : ℕ) → h < z.m / 4
    → summary_of (opened_world grid z mem).state h mem ≡ Err Refusal.NothingWritten
unfolding run
fresh_grid z mem ok h hh =
    let S = shown z mem ok [] in
    nothing_at_rest z mem ok [] (λ q hq. refl) h hh
    (ap (λ (es : List Entry). hour_in (filled z) es h) (no_entries S.one_order.order (S.at_rest (λ q hq. refl)).finished) ∙ no_values (filled z) h)
