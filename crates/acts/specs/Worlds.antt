-- A machine, and any calls on it one after another: "each given the last returned state and the one memory the grid was opened in".
-- Assumes nothing.
use Rattle.std.specs.Prelude.{ℕ, ◌≡◌, false, List, [], ◌∷◌, Ok}
use Rattle.numbers.specs.declared.Terms.{Terms}
use Rattle.lanes.specs.declared.State.{State}
use Rattle.steps.specs.Memory.{Memory}
use Rattle.acts.specs.declared.Ask.{Ask}
use Rattle.acts.specs.Calls.{Opening, Response}
use Rattle.acts.specs.Calls.{lengths_fit, open_of, begin_of, step_of}

-- What an opening gives, what a beginning leaves and answers, and what a step does. S are the states.
pub record Started (S : Type 0) : Type 0 where
  pub state : S
  pub opening : Opening

pub record Reply (S : Type 0) : Type 0 where
  pub state : S
  pub answer : Response

pub record Result (S : Type 0) : Type 0 where
  pub state : S
  pub answer : Response
  pub memory : Memory

-- How a machine opens, begins an operation that is asked of it, and takes a step. A is what may be asked.
pub record Machine (S A : Type 0) : Type 0 where
  pub opens : Terms → Memory → Started S
  pub begin : S → ℕ → A → Reply S
  pub step : S → ℕ → Memory → Result S

-- Ours, by the definitions that the promises of `open`, `begin` and `step` cite.
abbrev pub grid : Machine State Ask
grid = record {
  opens = λ z mem. record { state = (open_of z mem).state; opening = (open_of z mem).opening };
  begin = λ s q a. record { state = (begin_of s q a).state; answer = (begin_of s q a).answer };
  step = λ s q mem. record { state = (step_of s q mem).stepped.state; answer = (step_of s q mem).stepped.answer; memory = (step_of s q mem).memory };
}

-- A call of process q on a grid opened with these terms. `misfit`: a step that brings memories of other lengths.
pub data Call (A : Type 0) (z : Terms) : Type 0 where
  begin : ℕ → A → Call A z
  step : ℕ → Call A z
  misfit : ℕ → (mem : Memory) → lengths_fit z mem ≡ false → Call A z

pub record World (S : Type 0) : Type 0 where
  pub state : S
  pub memory : Memory

abbrev pub world : {S : Type 0} → S → Memory → World S
world s mem = record { state = s; memory = mem }

-- What a call answers,
abbrev pub answer_to : {S A : Type 0} {z : Terms} → Machine S A → World S → Call A z → Response
answer_to M w (begin q a) = (M.begin w.state q a).answer
answer_to M w (step q) = (M.step w.state q w.memory).answer
answer_to M w (misfit q mem h) = (M.step w.state q mem).answer

-- and what it leaves. ("A call refused with 8 brings its own" memory.)
abbrev pub world_after : {S A : Type 0} {z : Terms} → Machine S A → World S → Call A z → World S
world_after M w (begin q a) = world (M.begin w.state q a).state w.memory
world_after M w (step q) = world (M.step w.state q w.memory).state (M.step w.state q w.memory).memory
world_after M w (misfit q mem h) = world (M.step w.state q mem).state w.memory

-- Any calls, one after another.
unfoldable pub after : {S A : Type 0} {z : Terms} → Machine S A → World S → List (Call A z) → World S
after M w [] = w
after M w (c ∷ cs) = after M (world_after M w c) cs

-- A grid opened in memory of any content; a caller sees that it was not refused.
abbrev pub Accepted : {S A : Type 0} → Machine S A → Terms → Memory → Type 0
Accepted M z mem = (M.opens z mem).opening ≡ Ok tt

abbrev pub opened_world : {S A : Type 0} → Machine S A → Terms → Memory → World S
opened_world M z mem = world (M.opens z mem).state mem
