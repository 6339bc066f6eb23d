-- Proof: what a run shows of each cell gives each line of the text, and what it shows of the state the refusals.
-- Assumes nothing.
use Rattle.std.specs.Prelude.{ℕ, ◌≡◌, Bool, ltb, length, Ok, Err}
use Rattle.std.proofs.Math.Path.{refl, ap}
use Rattle.std.proofs.Common.{sym, ◌∙◌, arith, ltb-true, lt-ltb}
use Rattle.std.proofs.Math.Bool.{true, false}
use mathlib.Core.List.{List, ◌++◌}
use Rattle.logic.specs.Pick.{pick}
use Rattle.logic.specs.BelowLaws.{below_all}
use Rattle.lists.proofs.ListLaws.{gathered_same}
use Rattle.acts.specs.Worlds.{grid, Call, Accepted}
use Rattle.byte_lists.specs.Bytes.{splice}
use Rattle.planners_text.specs.PlannersText.{header, line_as, lines_below, text_of, quarter_at, inside, words_fit, Page, page, write_of}
use Rattle.planners_text.specs.Sheet.{written_as, written_below}
use Rattle.demands.specs.Types.{Refusal, Terms, State, Memory, Ask}
use Rattle.demands.specs.Book.{Run}
use Rattle.bridge.proofs.Theorems.{after, the_state_agrees}
use Rattle.resting.specs.AtRest.{Resting, rests_in, filled}
use Rattle.resting.proofs.Hours.{resting_rests, rests_resting}
use Rattle.resting.proofs.Theorems.{shown, order, scan_told, lengths_told, under_way}
use Rattle.paper.specs.OnPaper.{array_below, array_text, write_in, OnPaper, SeventeenAlone, TenUnderWay}

-- What is left of the refusals at rest.
abbrev put : Bool → ℕ → List ℕ → List ℕ → Page
put short n out o = pick short (page (Err Refusal.NoRoom) out) (page (Ok n) o)

room_alone : (short : Bool) (n : ℕ) (out o : List ℕ) (e : Refusal) → (put short n out o).answer ≡ Err e → (e ≡ Refusal.NoRoom) × (short ≡ true)
room_alone true n out o e h = (cc, refl)
room_alone false n out o e h = absurd (let y : ◌≡◌ {A = ℕ} 0 1 = cc in omega arith)

module _ (z : Terms) (mem : Memory) (ok : Accepted grid z mem) (calls : List (Call Ask z)) where
  abbrev run : Run State
  run = after z mem ok calls

  abbrev s : State
  s = run.world.state

  abbrev left : Memory
  left = run.world.memory

  abbrev text : List ℕ
  text = text_of s left

  terms : s.terms ≡ z
  terms = (the_state_agrees z mem ok calls).same_terms

  text_is : Resting z run → text ≡ array_text (filled z) (order z mem ok calls) z.m
  unfolding text_of lines_below
  text_is rest =
      ap (λ (n : ℕ). header ++ lines_below s left n) (ap (λ (y : Terms). y.m) terms)
      ∙ ap (λ (lines : List ℕ). header ++ lines) (gathered_same z.m _ _ (λ i h. ap (line_as i) (((shown z mem ok calls).at_rest rest).reading i h)))

  -- at rest no word of a check lies outside
  words_fit_lem : Resting z run → words_fit s left ≡ true
  words_fit_lem rest =
      below_all s.terms.m (λ (i : ℕ). inside (quarter_at s left i))
      (λ i h. ap inside (((shown z mem ok calls).at_rest rest).reading i (rw (← terms) h)))

  writes : (out : List ℕ) → write_of s left out ≡ write_in z run.book text out
  unfolding write_of
  writes out = by (rests_in z run.book) refl
    where
      by : (b : Bool) → rests_in z run.book ≡ b → write_of s left out ≡ write_in z run.book text out
      by true e = rw (scan_told z mem ok calls, lengths_told z mem ok calls, e, words_fit_lem (rests_resting z run e))
      by false e = rw (scan_told z mem ok calls, lengths_told z mem ok calls, e)

  -- With no operation under way the rows are the array's.
  pub paper_at_rest : Resting z run → written_below s left z.m ≡ array_below (filled z) (order z mem ok calls) z.m
  unfolding written_below
  paper_at_rest rest = gathered_same z.m _ _ (λ i h. ap (written_as i) (((shown z mem ok calls).at_rest rest).reading i h))

  -- THE THEOREM: after any calls on an opened grid.
  pub on_paper : OnPaper z run
  on_paper = record { one_order = (shown z mem ok calls).one_order; rows = paper_at_rest; text = text_is; writes = writes }

  pub text_under_way : TenUnderWay z run
  text_under_way out u = writes out ∙ rw (under_way z run u)

  pub refused_with_seventeen_alone : (out : List ℕ) → Resting z run → SeventeenAlone z run out
  refused_with_seventeen_alone out rest =
      let short = ltb (length out) (length text) in
      let is : write_of s left out ≡ put short (length text) out (splice out 0 text) = writes out ∙ rw (resting_rests z run rest) in
      record {
        alone = λ e h.
            let k = room_alone short (length text) out (splice out 0 text) e (sym (ap (λ (p : Page). p.answer) is) ∙ h) in (k.0, ltb-true _ _ k.1);
        exactly = λ h. is ∙ rw (lt-ltb (length out) (length text) h);
      }
