-- A step judged and carried out: its turn is told of, and its lane was in its range.
-- Assumes nothing.
use Rattle.std.specs.Prelude.{Option, Ok, Err}
use mathlib.Core.Path.{◌≡◌, refl, sym, ◌∙◌}
use mathlib.Core.Bool.{Bool, true, false}
use Prim.Native.Nat.{ℕ, ◌<◌, ◌≤◌}
use native.Mathlib.Omega.{arith}
use lib.Dec.{ltb}
use borrow.Author.Tests.{ltb-true}
use Rattle.numbers.specs.Numbers.{most_steps}
use Rattle.refusals.specs.declared.Refusal.{Refusal}
use Rattle.numbers.specs.declared.Terms.{Terms}
use Rattle.steps.specs.Inner.{handed}
use Rattle.lanes.specs.declared.Lane.{Lane}
use Rattle.lanes.specs.Laws.{lane_steps}
use Rattle.steps.specs.declared.Turn.{Turn}
use Rattle.steps.specs.Memory.{Memory}
use Rattle.steps.specs.Steps.{turn_of}
use Rattle.acts.specs.Calls.{Verdict, lengths_fit, verdict_of}
use Rattle.acts.specs.Inner.{Judged}
use Rattle.judged.specs.Inner.{Told}
use Rattle.judged.proofs.NewLaws.{told}

-- the turn of a step whose state and process are right is told of as its lane is
pub told_known : (fits : Bool) (z : Terms) (top q : ℕ) (l : Lane) (seen : ℕ) (mem : Memory) (t : Option Turn) → Judged fits z top q l seen → fits ≡ true
    → q < z.p → t ≡ turn_of z top q l (handed seen) mem → Told z top l t
told_known fits z top q l seen mem t j fine low e = told z top l (j.sizes fine) (j.lane fine low) q seen mem t (j.marks fine low) e

-- a step that moves had a lane in its range
pub moved_fits : (fits : Bool) (z : Terms) (top q : ℕ) (l : Lane) (mem : Memory) (t : Option Turn) (u : Turn) (seen : ℕ) (v : Verdict)
    → Judged fits z top q l seen → v ≡ verdict_of fits z top q l mem t → v ≡ Ok u → l.steps ≤ most_steps
unfolding verdict_of
moved_fits fits z top q l mem t u seen v j e k = by fits refl (ltb q z.p) refl (lengths_fit z mem) refl
  where
    none : (x : Refusal) → Ok u ≡ Err x → l.steps ≤ most_steps
    none x h = absurd (let y : ◌≡◌ {A = ℕ} 0 1 = cc in omega arith)

    h : verdict_of fits z top q l mem t ≡ Ok u
    h = sym e ∙ k

    by : (b : Bool) → fits ≡ b → (c : Bool) → ltb q z.p ≡ c → (d : Bool) → lengths_fit z mem ≡ d → l.steps ≤ most_steps
    by true f true g d i = lane_steps z l (j.lane f (ltb-true q z.p g))
    by true f false g true i = none Refusal.NoSuchProcess (sym h ∙ rw (f, i, g))
    by true f false g false i = none Refusal.OtherLengths (sym h ∙ rw (f, i))
    by false f c g d i = none Refusal.OutOfRange (sym h ∙ rw f)
