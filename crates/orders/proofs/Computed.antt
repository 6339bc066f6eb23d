-- The numbers, by computation.
-- Assumes nothing.
use Rattle.std.specs.Prelude.{ℕ, ◌≡◌, refl, ◌≢◌, List, Err, Option, None, Some, Ok}
use Rattle.std.proofs.Common.{ap, arith}
use Rattle.refusals.specs.declared.Refusal.{Refusal}
use Rattle.refusals.specs.Orders.{Rule, orders}
use Rattle.refusals.specs.Laws.{orders_then}
use Rattle.lanes.specs.declared.State.{State}
use Rattle.lanes.specs.Ranges.{lane_of}
use Rattle.steps.specs.declared.Turn.{Turn}
use Rattle.steps.specs.Memory.{Memory}
use Rattle.acts.specs.declared.Acted.{Acted}
use Rattle.acts.specs.declared.Answer.{Answer}
use Rattle.acts.specs.Calls.{Opening, Response}
use Rattle.acts.specs.Calls.{Verdict}
use Rattle.acts.specs.Calls as Grid
use Rattle.summary.specs.Summary.{summary_of}
use Rattle.planners_text.specs.PlannersText as Text
use Rattle.qhs.specs.Qhs.{read_in, read_of}
use Rattle.qhs_writer.specs.Writer as Writer
use Rattle.orders.specs.Numbered.{numbers_of, InOrder, step_told, rules_by, Orders}

-- An order whose outcome is taken on.
in_order : {A B : Type 0} (f : A → B) (refuse : Refusal → A) (rules : List Rule) (work : A) (numbers : List ℕ) → numbers_of rules ≡ numbers
    → ((r : Refusal) → f work ≢ f (refuse r)) → InOrder (λ r. f (refuse r)) (f (orders refuse rules work)) rules numbers
in_order f refuse rules work numbers e k = record { work = f work; works = k; first = orders_then f refuse rules work; numbered = e }

-- An order itself.
as_told : {A : Type 0} (refuse : Refusal → A) (rules : List Rule) (work : A) (numbers : List ℕ) → numbers_of rules ≡ numbers
    → ((r : Refusal) → work ≢ refuse r) → InOrder refuse (orders refuse rules work) rules numbers
as_told refuse rules work numbers e k = in_order (λ x. x) refuse rules work numbers e k

no : ◌≡◌ {A = ℕ} 0 1 → ⊥
no h = omega arith

-- What a step answers whose verdict is v; the order of a step, whatever its turn. (One outside is refused with the last 9, so that it
-- matters not what it would come to.)
module _ (s : State) (q : ℕ) (mem : Memory) where
  abbrev answers : Verdict → Response
  answers v = (Grid.effect_of (lane_of s q) s.top mem v).acted.answer

  steps_by : (t : Option Turn) (numbers : List ℕ) → numbers_of (rules_by s q mem t) ≡ numbers
      → InOrder Err (Grid.step_by s q mem t).stepped.answer (rules_by s q mem t) numbers
  unfolding Grid.verdict_of
  steps_by None numbers e = record {
    work = Ok Answer.Going;
    works = λ r k. no cc;
    first = orders_then answers Err (step_told s q mem) (Err Refusal.OutOfRange);
    numbered = e;
  }
  steps_by (Some t) numbers e = in_order answers Err _ (Ok t) numbers e (λ r k. no cc)

pub the_orders : Orders
unfolding Grid.opening_of Grid.begun_of summary_of Text.write_of read_in read_of Writer.write_of
the_orders = record {
  opens = λ z mem. in_order (λ (o : Opening). (Grid.opened_as z o).opening) Err _ _ _ refl (λ r e. no cc);
  begins = λ s q a. in_order (λ (b : Acted). b.answer) (Grid.refused_as (lane_of s q) s.top) _ _ _ refl (λ r e. no cc);
  steps = λ s q mem. steps_by s q mem (Grid.turn_in s q mem) _ refl;
  summary = λ s h mem. as_told Err _ _ _ refl (λ r e. no cc);
  text = λ s mem out. as_told (Text.nothing_written out) _ _ _ refl (λ r e. let a = ap (λ (x : Text.Page). x.answer) e in no cc);
  reads = λ bytes. as_told Err _ _ _ refl (λ r e. no cc);
  writes = λ h f out. as_told (Writer.nothing_written out) _ _ _ refl (λ r e. let a = ap (λ (x : Writer.Page). x.answer) e in no cc);
}
