-- Proofs: one outcome, and harmless refusals.
-- Assumes nothing.
use Rattle.std.specs.Prelude.{ℕ, ◌≡◌, refl, Bool, true, false, List, [], ◌∷◌, Ok, Err}
use Rattle.std.proofs.Common.{ap, arith}
use Rattle.numbers.specs.declared.Cell.{Cell}
use Rattle.numbers.specs.declared.Terms.{Terms}
use Rattle.refusals.specs.Orders.{Rule, orders}
use Rattle.logic.specs.Determined.{by_equation, by_part}
use Rattle.logic.specs.Pick.{pick}
use Rattle.refusals.specs.declared.Refusal.{Refusal}
use Rattle.lanes.specs.declared.Op.{Op}
use Rattle.lanes.specs.declared.Lane.{Lane}
use Rattle.lanes.specs.declared.State.{State}
use Rattle.lanes.specs.Ranges.{lane_of, state_fits}
use Rattle.acts.specs.declared.Acted.{Acted}
use Rattle.acts.specs.declared.Answer.{Answer}
use Rattle.acts.specs.Calls.{Opening}
use Rattle.acts.specs.Calls.{Verdict}
use Rattle.acts.specs.Settled.{put_back}
use Rattle.acts.specs.Calls.{open_of, begin_of, step_of, opening_of, opened_as, refused_as, with_op, begin_refusals, cell_of, op_of, begun_of, stepped_as}
use Rattle.acts.specs.Calls.{verdict_of, effect_of, outcome, outcome_as, turn_in, Outcome}
use Rattle.claims.specs.Claims.{OneOpening, OneBeginning, OneStep, RefusedOpen, ClosedBegin, ClosedStep, RefusedBegin, RefusedStep}
use Rattle.claims.specs.Claims.{closed}

pub one_opening : OneOpening
one_opening z mem = by_equation (open_of z mem)

pub one_beginning : OneBeginning
one_beginning s q a = by_equation (begin_of s q a)

pub one_step : OneStep
one_step s q mem r r' after after' e e' = (
  by_part (λ (x : Outcome). x.stepped) (step_of s q mem) (outcome r after) (outcome r' after') e e',
  by_part (λ (x : Outcome). x.memory) (step_of s q mem) (outcome r after) (outcome r' after') e e',
)

pub refused_open_is_closed : RefusedOpen
refused_open_is_closed z mem r = by (opening_of z mem)
  where
    by : (o : Opening) → (opened_as z o).opening ≡ Err r → (opened_as z o).state ≡ closed
    by (Ok u) h = absurd (let y : ◌≡◌ {A = ℕ} 0 1 = cc in omega arith)
    by (Err x) h = refl

-- a call's acts: refused, and the lane and the top are as they were; or not refused
data Acts (l : Lane) (top : ℕ) : Acted → Type 0 where
  refuses : (r : Refusal) → Acts l top (refused_as l top r)
  works : (b : Acted) → ((r : Refusal) → b.answer ≡ Err r → ⊥) → Acts l top b

harmless_by : (s : State) (q : ℕ) (b : Acted) → Acts (lane_of s q) s.top b → (r : Refusal) → b.answer ≡ Err r
    → (stepped_as s q b).state ≡ s
harmless_by s q b (refuses x) r h = put_back s q
harmless_by s q b (works c k) r h = absurd (k r h)

orders_act : (l : Lane) (top : ℕ) (rules : List Rule) (b : Acted) → ((r : Refusal) → b.answer ≡ Err r → ⊥)
    → Acts l top (orders (refused_as l top) rules b)
orders_act l top [] b k = works b k
orders_act l top (x ∷ xs) b k = by x.when (orders_act l top xs b k)
  where
    by : (y : Bool) → Acts l top (orders (refused_as l top) xs b) → Acts l top (pick y (refused_as l top x.gives) (orders (refused_as l top) xs b))
    by true later = refuses x.gives
    by false later = later

begun_acts : (fits : Bool) (z : Terms) (top q : ℕ) (l : Lane) (i : Cell) (o : Op) → Acts l top (begun_of fits z top q l i o)
unfolding begun_of
begun_acts fits z top q l i o =
    orders_act l top (begin_refusals fits z q l i) (record { lane = with_op l 0 o; top = top; answer = Ok Answer.Begun })
    (λ r h. let y : ◌≡◌ {A = ℕ} 0 1 = cc in omega arith)

pub a_refused_begin_changes_nothing : RefusedBegin
a_refused_begin_changes_nothing s q a r h =
    harmless_by s q (begun_of (state_fits s) s.terms s.top q (lane_of s q) (cell_of a) (op_of a))
    (begun_acts (state_fits s) s.terms s.top q (lane_of s q) (cell_of a) (op_of a)) r h

pub a_refused_step_changes_nothing : RefusedStep
a_refused_step_changes_nothing s q mem r = by (verdict_of (state_fits s) s.terms s.top q (lane_of s q) mem (turn_in s q mem))
  where
    by : (v : Verdict) → (outcome_as s q (effect_of (lane_of s q) s.top mem v)).stepped.answer ≡ Err r
        → ((outcome_as s q (effect_of (lane_of s q) s.top mem v)).stepped.state ≡ s) × ((outcome_as s q (effect_of (lane_of s q) s.top mem v)).memory ≡ mem)
    by (Err x) h = (put_back s q, refl)
    by (Ok t) h = absurd (let y : ◌≡◌ {A = ℕ} 0 1 = cc in omega arith)

pub closed_begin : ClosedBegin
unfolding begun_of
closed_begin q a = ap (λ (x : State). record { state = x; answer = Err Refusal.OutOfRange }) (put_back closed q)

pub closed_step : ClosedStep
unfolding verdict_of
closed_step q mem = ap (λ (x : State). outcome (record { state = x; answer = Err Refusal.OutOfRange }) mem) (put_back closed q)
