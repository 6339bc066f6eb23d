-- The papers' orders of refusals, call by call: the numbers of the very rules that the promise of each call cites. A call more is a
-- field.
-- Assumes nothing.
use Rattle.std.specs.Prelude.{ℕ, ◌≡◌, ◌≢◌, List, [], ◌∷◌, ◌++◌, Err, Option}
use Rattle.numbers.specs.declared.Terms.{Terms}
use Rattle.refusals.specs.declared.Refusal.{Refusal}
use Rattle.refusals.specs.Numbers.{number_of}
use Rattle.refusals.specs.Orders.{Rule, orders}
use Rattle.lanes.specs.declared.State.{State}
use Rattle.lanes.specs.Ranges.{lane_of, state_fits}
use Rattle.steps.specs.declared.Turn.{Turn}
use Rattle.steps.specs.Memory.{Memory}
use Rattle.acts.specs.declared.Ask.{Ask}
use Rattle.acts.specs.Calls as Grid
use Rattle.summary.specs.Summary.{summary_refusals, summary_of}
use Rattle.planners_text.specs.PlannersText as Text
use Rattle.qhs.specs.declared.Header.{Header}
use Rattle.qhs.specs.Qhs.{version1, file_refusals, read_of}
use Rattle.qhs_writer.specs.Writer as Writer

abbrev pub numbers_of : List Rule → List ℕ
numbers_of [] = []
numbers_of (r ∷ rs) = number_of r.gives ∷ numbers_of rs

-- An outcome is the refusal of the first of the rules that holds, or else the call's work, which is no refusal; and these are the
-- rules' numbers.
pub record InOrder {A : Type 0} (refuse : Refusal → A) (outcome : A) (rules : List Rule) (numbers : List ℕ) : Type 0 where
  pub work : A
  pub works : (r : Refusal) → work ≢ refuse r
  pub first : outcome ≡ orders refuse rules work
  pub numbered : numbers_of rules ≡ numbers

abbrev pub begin_rules : State → ℕ → Ask → List Rule
begin_rules s q a = Grid.begin_refusals (state_fits s) s.terms q (lane_of s q) (Grid.cell_of a)

abbrev pub step_told : State → ℕ → Memory → List Rule
step_told s q mem = Grid.step_refusals (state_fits s) s.terms mem q (lane_of s q)

-- The last 9 of a step is of the word, the draw or the new number that its turn asks for.
abbrev pub rules_by : State → ℕ → Memory → Option Turn → List Rule
rules_by s q mem t = step_told s q mem ++ Grid.turn_refusals s.terms s.top (lane_of s q) t

abbrev pub step_rules : State → ℕ → Memory → List Rule
step_rules s q mem = rules_by s q mem (Grid.turn_in s q mem)

pub record Orders : Type 0 where
  -- "Open: 1, 2, 3.
  pub opens : (z : Terms) (mem : Memory) → InOrder Err (Grid.open_of z mem).opening (Grid.open_refusals z mem) (1 ∷ 2 ∷ 3 ∷ [])
  -- Begin: 9 (state), 4, 6, 5.
  pub begins : (s : State) (q : ℕ) (a : Ask) → InOrder Err (Grid.begin_of s q a).answer (begin_rules s q a) (9 ∷ 4 ∷ 6 ∷ 5 ∷ [])
  -- Step: 9 (state), 8, 4, 7, 9 (word, draw or new number).
  pub steps : (s : State) (q : ℕ) (mem : Memory)
      → InOrder Err (Grid.step_of s q mem).stepped.answer (step_rules s q mem) (9 ∷ 8 ∷ 4 ∷ 7 ∷ 9 ∷ [])
  -- Hour summary: 9 (state), 8, 10, 5, 9 (word)", and W4's 18, last.
  pub summary : (s : State) (h : ℕ) (mem : Memory)
      → InOrder Err (summary_of s h mem) (summary_refusals s h mem) (9 ∷ 8 ∷ 10 ∷ 5 ∷ 9 ∷ 18 ∷ [])
  -- The planners' text (W1): "9 (state), 8, 10, 9 (word), then 17 if the text doesn't fit".
  pub text : (s : State) (mem : Memory) (out : List ℕ)
      → InOrder (Text.nothing_written out) (Text.write_of s mem out) (Text.text_refusals s mem ++ Text.room_refusals s mem out) (9 ∷ 8 ∷ 10 ∷ 9 ∷ 17 ∷ [])
  -- "File: 16, 11, 12, 13, 14, 15, then open's."
  pub reads : (bytes : List ℕ)
      → InOrder Err (read_of bytes) (file_refusals version1 bytes) (16 ∷ 11 ∷ 12 ∷ 13 ∷ 14 ∷ 15 ∷ 1 ∷ 2 ∷ [])
  -- The file's writer (W2): "16, 13, 15, 1, 2, then 17 if the lent buffer is too short".
  pub writes : (h : Header) (f : Writer.Fields) (out : List ℕ)
      → InOrder (Writer.nothing_written out) (Writer.write_of h f out) (Writer.write_refusals h f out) (16 ∷ 13 ∷ 15 ∷ 1 ∷ 2 ∷ 17 ∷ [])
