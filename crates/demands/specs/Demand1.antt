-- 1. "Any number, memory or state may be handed in. Each call either does its work or gives the refusal that the table
-- assigns, in the table's order. A refusal returns the state it was given, if any, and changes no lent word."
-- Assumes nothing.
use Rattle.std.specs.Prelude.{ℕ, ◌≡◌, List, Ok, Err, Option}
use Rattle.refusals.specs.Orders.{Rule, orders}
use Rattle.lanes.specs.Ranges.{lane_of, state_fits}
use Rattle.acts.specs.Calls.{open_refusals, begin_refusals, step_refusals, turn_refusals}
use Rattle.acts.specs.Worlds.{Machine, Reply, Result}
use Rattle.demands.specs.Types.{Refusal, Cell, Terms, State, Memory, Answer, Response, Turn}
use Rattle.demands.specs.Kinds.{Kind}

-- What an answer says of a call: it is refused, or an operation begins, or an operation takes a step.
pub data Said : Type 0 where
  refused : Refusal → Said
  begins : Said
  steps : Said

abbrev pub said : Response → Said
said (Ok Answer.Begun) = begins
said (Ok Answer.Going) = steps
said (Ok (Answer.Read v t n)) = steps
said (Ok (Answer.Written n)) = steps
said (Ok (Answer.Asked t n)) = steps
said (Err r) = refused r

-- Begin: 9 (state), 4, 6, 5.
abbrev pub begin_table : State → ℕ → Cell → List Rule
begin_table s q i = begin_refusals (state_fits s) s.terms q (lane_of s q) i

-- Step: 9 (state), 8, 4, 7,
abbrev pub step_table : State → ℕ → Memory → List Rule
step_table s q mem = step_refusals (state_fits s) s.terms mem q (lane_of s q)

-- then 9 (word, draw or new number): what the step list says for this step can't be done within the ranges.
abbrev pub word_table : State → ℕ → Option Turn → List Rule
word_table s q t = turn_refusals s.terms s.top (lane_of s q) t

abbrev pub refused_on : {S : Type 0} → S → Refusal → Reply S
refused_on s r = record { state = s; answer = Err r }

abbrev pub unchanged : {S : Type 0} → S → Memory → Refusal → Result S
unchanged s mem r = record { state = s; answer = Err r; memory = mem }

pub record Demand1 {S A : Type 0} (K : Kind S A) (M : Machine S A) : Type 0 where
  -- The first refusal that holds is given, and none where none holds. Open: 1, 2, 3.
  pub open_table : (z : Terms) (mem : Memory) → (M.opens z mem).opening ≡ orders Err (open_refusals z mem) (Ok tt)
  pub begin_table_lem : (s : S) (q : ℕ) (a : A) → said (M.begin s q a).answer ≡ orders refused (begin_table (K.grid s) q (K.cell a)) begins
  pub step_table_lem : (s : S) (q : ℕ) (mem : Memory) → said (M.step s q mem).answer
      ≡ orders refused (step_table (K.grid s) q mem) (orders refused (word_table (K.grid s) q (K.turn s q mem)) steps)
  -- A refused call returns the state as received, and every lent word as it was. (Open gives no state, and is lent nothing to change.)
  pub begin_refused : (s : S) (q : ℕ) (a : A) (r : Refusal) → (M.begin s q a).answer ≡ Err r → M.begin s q a ≡ refused_on s r
  pub step_refused : (s : S) (q : ℕ) (mem : Memory) (r : Refusal) → (M.step s q mem).answer ≡ Err r → M.step s q mem ≡ unchanged s mem r
