-- Proof: a step changes at most one shared word, and nothing of another lane.
-- Assumes nothing.
use Rattle.std.specs.Prelude.{ℕ, ◌+◌, ◌≡◌, refl, ◌≢◌, Bool, true, false, not, List, ltb, length, get_or, set, Option, None, Some, Ok, Err}
use Rattle.std.proofs.Common.{sym, ap, ◌∙◌, subst, arith, length-set, get_or-set_same, get_or-set_other, ltb-true, ltb-false}
use Rattle.std.proofs.Math.Decide.{ℕ_discrete}
use Rattle.std.proofs.Math.Seq.{set_out}
use Rattle.logic.specs.Pick.{pick}
use Rattle.numbers.specs.Numbers.{offset_of}
use Rattle.numbers.specs.declared.Terms.{Terms}
use Rattle.refusals.specs.declared.Refusal.TheVariants as Refusal
use Rattle.refusals.specs.Laws.{past}
use Rattle.lanes.specs.declared.Lane.{Lane}
use Rattle.lanes.specs.declared.State.{State}
use Rattle.lanes.specs.Ranges.{rest, lane_of, marks_of, state_fits}
use Rattle.steps.specs.declared.Word.{Word}
use Rattle.steps.specs.declared.Change.{Change}
use Rattle.steps.specs.declared.Next.{Next}
use Rattle.steps.specs.declared.Turn.{Turn}
use Rattle.steps.specs.Memory.{Memory}
use Rattle.steps.specs.Changes.{lane_after, top_after, memory_after}
use Rattle.steps.specs.Touched.{touched}
use Rattle.steps.proofs.OneWord.{Stores, others_stay, drawn_stays, turn_stores}
use Rattle.acts.specs.Calls.{Verdict}
use Rattle.acts.specs.Settled.{put_back}
use Rattle.acts.specs.Calls.{step_refusals, settled, advance, numbers_fit, decided, verdict_of, effect_of, outcome_as, turn_in}
use Rattle.claims.specs.Claims.{Changed, ChangesOneWord}

-- what a new lane of process q leaves as it was, is as it was in every lane
pub lane_kept : {A : Type 0} (f : Lane → A) (s : State) (q : ℕ) (l : Lane) (t : ℕ) → f l ≡ f (lane_of s q)
    → (r : ℕ) → f (lane_of (settled s q l t) r) ≡ f (lane_of s r)
lane_kept f s q l t e r = by (ℕ_discrete r q)
  where
    own : (b : Bool) → ltb q (length s.lanes) ≡ b → f (get_or (set s.lanes q l) q rest) ≡ f (get_or s.lanes q rest)
    own true h = ap f (get_or-set_same s.lanes q l rest (ltb-true _ _ h)) ∙ e
    own false h = ap (λ (x : List Lane). f (get_or x q rest)) (set_out s.lanes q l (ltb-false _ _ h))

    by : Dec (r ≡ q) → f (get_or (set s.lanes q l) r rest) ≡ f (get_or s.lanes r rest)
    by (yes k) = rw k (own (ltb q (length s.lanes)) refl)
    by (no k) = ap f (get_or-set_other s.lanes q r l rest k)

same_marks : (nx : Next) (l : Lane) → (advance nx l).marks ≡ l.marks
same_marks (Next.Going o) l = refl
same_marks (Next.Read v b) l = refl
same_marks Next.Written l = refl
same_marks (Next.Asked b) l = refl

same_drawn_lem : (nx : Next) (l : Lane) → (advance nx l).drawn ≡ l.drawn
same_drawn_lem (Next.Going o) l = refl
same_drawn_lem (Next.Read v b) l = refl
same_drawn_lem Next.Written l = refl
same_drawn_lem (Next.Asked b) l = refl

module _ (s : State) (q : ℕ) (mem : Memory) (nx : Next) where
  abbrev after : Change → State
  after ch = settled s q (advance nx (lane_after ch (lane_of s q))) (top_after ch s.top)

  -- the lanes that keep their marks, and the drawn count, where the change leaves them
  keeps_marks : (ch : Change) → (lane_after ch (lane_of s q)).marks ≡ (lane_of s q).marks → (r : ℕ) → (lane_of (after ch) r).marks ≡ (lane_of s r).marks
  keeps_marks ch e =
      lane_kept (λ (l : Lane). l.marks) s q (advance nx (lane_after ch (lane_of s q))) (top_after ch s.top)
      (same_marks nx (lane_after ch (lane_of s q)) ∙ e)

  keeps_drawn : (ch : Change) → (lane_after ch (lane_of s q)).drawn ≡ (lane_of s q).drawn → (lane_of (after ch) q).drawn ≡ (lane_of s q).drawn
  keeps_drawn ch e =
      lane_kept (λ (l : Lane). l.drawn) s q (advance nx (lane_after ch (lane_of s q))) (top_after ch s.top)
      (same_drawn_lem nx (lane_after ch (lane_of s q)) ∙ e) q

  other : (ch : Change) (r : ℕ) → r ≢ q → lane_of (after ch) r ≡ lane_of s r
  other ch r k = get_or-set_other s.lanes q r (advance nx (lane_after ch (lane_of s q))) rest k

  lengths : (ch : Change) → (length (memory_after ch mem).readings ≡ length mem.readings) × (length (memory_after ch mem).links ≡ length mem.links)
      × (length (memory_after ch mem).directory ≡ length mem.directory) × (length (memory_after ch mem).pool ≡ length mem.pool)
  lengths Change.Nothing = (refl, refl, refl, refl)
  lengths (Change.Reading i v) = (length-set mem.readings i v, refl, refl, refl)
  lengths (Change.Link i x) = (refl, length-set mem.links i x, refl, refl)
  lengths (Change.Directory k x) = (refl, refl, length-set mem.directory k x, refl)
  lengths (Change.Mark start n x) = (refl, refl, refl, length-set mem.pool (start + offset_of n.0) x)
  lengths (Change.Marks n) = (refl, refl, refl, refl)
  lengths (Change.Top t n) = (refl, refl, refl, refl)

  moves : (ch : Change) (w : Word) → Stores q ch w → Changed q w s (after ch) mem (memory_after ch mem)
  moves ch w e = record {
    others =
        others_stay q s.top (lane_of s q) mem (marks_of s) (marks_of (after ch)) ch w e
        (λ r k. ap (λ (l : Lane). l.marks) (other ch r k)) (keeps_marks ch);
    drawn = λ k. keeps_drawn ch (drawn_stays q (lane_of s q) ch w e k);
    lanes = other ch;
    terms = refl;
    lent = lengths ch;
  }

unchanged : (q : ℕ) (w : Word) (s : State) (mem : Memory) → Changed q w s s mem mem
unchanged q w s mem = record {
  others = λ w h. refl;
  drawn = λ h. refl;
  lanes = λ r h. refl;
  terms = refl;
  lent = (refl, refl, refl, refl);
}

none : {A : Type 0} → ◌≡◌ {A = ℕ} 0 1 → A
none h = absurd (omega arith)

-- a step that moves takes its turn
module _ (z : Terms) (top : ℕ) (l : Lane) (u : Turn) where
  decides : (t : Option Turn) → decided z top l t ≡ Ok u → t ≡ Some u
  decides None e = none cc
  decides (Some t) e = by (numbers_fit z top l t.change t.next) e
    where
      by : (b : Bool) → pick (not b) (Err Refusal.OutOfRange) (Ok t) ≡ Ok u → Some t ≡ Some u
      by true h = let f : t ≡ u = cc in ap Some f
      by false h = none cc

pub a_step_changes_one_word : ChangesOneWord
unfolding verdict_of
a_step_changes_one_word s q mem = by (verdict_of (state_fits s) s.terms s.top q (lane_of s q) mem (turn_in s q mem)) refl
  where
    w : Word
    w = touched s.terms q mem.directory (lane_of s q).op

    takes : (u : Turn) → verdict_of (state_fits s) s.terms s.top q (lane_of s q) mem (turn_in s q mem) ≡ Ok u
        → turn_in s q mem ≡ Some u
    takes u e =
        decides s.terms s.top (lane_of s q) u (turn_in s q mem)
        (past Err (step_refusals (state_fits s) s.terms mem q (lane_of s q)) (decided s.terms s.top (lane_of s q) (turn_in s q mem))
        (Ok u) (λ r h. none cc) e).1

    by : (v : Verdict) → verdict_of (state_fits s) s.terms s.top q (lane_of s q) mem (turn_in s q mem) ≡ v
        → Changed q w s (outcome_as s q (effect_of (lane_of s q) s.top mem v)).stepped.state mem
        (outcome_as s q (effect_of (lane_of s q) s.top mem v)).memory
    by (Err x) e = subst (λ (y : State). Changed q w s y mem mem) (sym (put_back s q)) (unchanged q w s mem)
    by (Ok u) e =
        moves s q mem u.next u.change w (turn_stores s.terms s.top q (lane_of s q) (marks_of s) mem u.change u.next (takes u e))
