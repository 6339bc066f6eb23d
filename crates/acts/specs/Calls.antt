-- Open, begin and step: the refusals of each in document 01's order, and all that each call determines.
-- Assumes nothing.
use Rattle.std.specs.Prelude.{ℕ, ◌+◌, Bool, false, not, ◌&&◌, List, [], ◌∷◌, Option, None, Some, Result, Ok, Err, leb, ltb, eqb, length, set, replicate}
use Rattle.numbers.specs.Numbers.{most_processes, directory_words, pool_words}
use Rattle.numbers.specs.Cells.{processes_fit, cells_fit, cell_fits}
use Rattle.numbers.specs.declared.Cell.{Cell}
use Rattle.numbers.specs.declared.Terms.{Terms}
use Rattle.refusals.specs.Orders.{Rule, ◌gives◌, orders}
use Rattle.refusals.specs.declared.Refusal.{Refusal}
use Rattle.lanes.specs.declared.Check.TheVariants as Check
use Rattle.lanes.specs.declared.Op.{Op}
use Rattle.lanes.specs.declared.Lane.{Lane}
use Rattle.lanes.specs.declared.State.{State}
use Rattle.lanes.specs.Ranges.{rest, lane_of, marks_of, idle, lane_fits, state_fits}
use Rattle.steps.specs.declared.Change.{Change}
use Rattle.steps.specs.declared.Next.{Next}
use Rattle.steps.specs.declared.Turn.{Turn}
use Rattle.steps.specs.Memory.{Memory}
use Rattle.steps.specs.Steps.{turn_of}
use Rattle.steps.specs.Changes.{lane_after, top_after, memory_after}
use Rattle.acts.specs.declared.Ask.{Ask}
use Rattle.acts.specs.declared.Answer.{Answer}
use Rattle.acts.specs.declared.Stepped.{Stepped}
use Rattle.acts.specs.declared.Opened.{Opened}
use Rattle.acts.specs.declared.Acted.{Acted}

-- Whether a grid was opened; what a step comes to; what a call answers. Each is refused or not.
abbrev pub Opening : Type 0
Opening = Result (Unit {0}) Refusal

abbrev pub Verdict : Type 0
Verdict = Result Turn Refusal

abbrev pub Response : Type 0
Response = Result Answer Refusal

-- Lent memory: readings m, links m, directory 17p, pool 4m + 2p. Lengths are exact.
abbrev pub lengths_fit : Terms → Memory → Bool
lengths_fit z mem =
    eqb (length mem.readings) z.m
    && (eqb (length mem.links) z.m
    && (eqb (length mem.directory) (directory_words z.p) && eqb (length mem.pool) (pool_words z.p z.m)))

-- OPEN: 1, 2, 3.
abbrev pub open_refusals : Terms → Memory → List Rule
open_refusals z mem =
    not (processes_fit z.p) gives Refusal.ProcessCount
    ∷ not (cells_fit z.m) gives Refusal.CellCount
    ∷ not (lengths_fit z mem) gives Refusal.LentLength
    ∷ []

unfoldable pub opening_of : Terms → Memory → Opening
opening_of z mem = orders Err (open_refusals z mem) (Ok tt)

-- Open sets every lane's counts and the pool's top to 0, with no operation under way.
abbrev pub fresh : Terms → State
fresh z = record { terms = z; top = 0; lanes = replicate most_processes rest }

-- A refused open gives no state to use: the closed one, whose p is out of range.
abbrev pub closed : Terms
closed = record { p = 0; m = 0; first = 0; step = 0 }

abbrev pub opened_as : Terms → Opening → Opened
opened_as z (Ok u) = record { state = fresh z; opening = Ok u }
opened_as z (Err r) = record { state = fresh closed; opening = Err r }

abbrev pub open_of : Terms → Memory → Opened
open_of z mem = opened_as z (opening_of z mem)

-- A state with another lane of process q, and another top.
abbrev pub settled : State → ℕ → Lane → ℕ → State
settled s q l top = record { terms = s.terms; top = top; lanes = set s.lanes q l }

-- BEGIN: 9 (state), 4, 6, 5.
abbrev pub begin_refusals : Bool → Terms → ℕ → Lane → Cell → List Rule
begin_refusals fits z q l i =
    not fits gives Refusal.OutOfRange
    ∷ not (ltb q z.p) gives Refusal.NoSuchProcess
    ∷ not (idle l.op) gives Refusal.UnderWay
    ∷ not (cell_fits z i) gives Refusal.NoSuchCell
    ∷ []

abbrev pub refused_as : Lane → ℕ → Refusal → Acted
refused_as l top r = record { lane = l; top = top; answer = Err r }

-- The operation goes on with so many steps, or there is none.
abbrev pub with_op : Lane → ℕ → Op → Lane
with_op l steps o = record { marks = l.marks; drawn = l.drawn; steps = steps; op = o }

-- Beginning an operation on cell i is not a step and touches no memory: the lane then has the operation o.
unfoldable pub begun_of : Bool → Terms → ℕ → ℕ → Lane → Cell → Op → Acted
begun_of fits z top q l i o =
    orders (refused_as l top) (begin_refusals fits z q l i) (record { lane = with_op l 0 o; top = top; answer = Ok Answer.Begun })

abbrev pub stepped_as : State → ℕ → Acted → Stepped
stepped_as s q b = record { state = settled s q b.lane b.top; answer = b.answer }

-- What may be asked: a read, a write or an asked of a cell; each begins with its first step.
abbrev pub cell_of : Ask → Cell
cell_of (Ask.Read i) = i
cell_of (Ask.Write i v) = i
cell_of (Ask.Asked i) = i

abbrev pub op_of : Ask → Op
op_of (Ask.Read i) = Op.Read i Check.Link
op_of (Ask.Write i v) = Op.Store i v
op_of (Ask.Asked i) = Op.Asked i Check.Link

abbrev pub begin_of : State → ℕ → Ask → Stepped
begin_of s q a = stepped_as s q (begun_of (state_fits s) s.terms s.top q (lane_of s q) (cell_of a) (op_of a))

-- STEP: 9 (state), 8, 4, 7,
abbrev pub step_refusals : Bool → Terms → Memory → ℕ → Lane → List Rule
step_refusals fits z mem q l =
    not fits gives Refusal.OutOfRange
    ∷ not (lengths_fit z mem) gives Refusal.OtherLengths
    ∷ not (ltb q z.p) gives Refusal.NoSuchProcess
    ∷ idle l.op gives Refusal.NothingUnderWay
    ∷ []

-- The operation goes on with one step more, or ends; a lane with no operation under way has taken none.
abbrev pub advance : Next → Lane → Lane
advance (Next.Going o) l = with_op l (l.steps + 1) o
advance (Next.Read v b) l = with_op l 0 Op.Idle
advance Next.Written l = with_op l 0 Op.Idle
advance (Next.Asked b) l = with_op l 0 Op.Idle

abbrev pub numbers_fit : Terms → ℕ → Lane → Change → Next → Bool
numbers_fit z top l change next = leb (top_after change top) (pool_words z.p z.m) && lane_fits z (advance next (lane_after change l))

abbrev pub turn_fits : Terms → ℕ → Lane → Option Turn → Bool
turn_fits z top l None = false
turn_fits z top l (Some t) = numbers_fit z top l t.change t.next

-- then 9 (word, draw or new number): a word lies outside its memory, or a number of the state would leave its range.
abbrev pub turn_refusals : Terms → ℕ → Lane → Option Turn → List Rule
turn_refusals z top l t = not (turn_fits z top l t) gives Refusal.OutOfRange ∷ []

-- A turn that fits moves. (None, outside, never does.)
abbrev pub moved : Option Turn → Verdict
moved None = Err Refusal.OutOfRange
moved (Some t) = Ok t

abbrev pub decided : Terms → ℕ → Lane → Option Turn → Verdict
decided z top l t = orders Err (turn_refusals z top l t) (moved t)

-- What a step comes to whose turn is t.
unfoldable pub verdict_of : Bool → Terms → ℕ → ℕ → Lane → Memory → Option Turn → Verdict
verdict_of fits z top q l mem t = orders Err (step_refusals fits z mem q l) (decided z top l t)

-- The answer says how many of its own steps a finished operation took.
abbrev pub answer_of : ℕ → Next → Answer
answer_of steps (Next.Going o) = Answer.Going
answer_of steps (Next.Read v b) = Answer.Read v b (steps + 1)
answer_of steps Next.Written = Answer.Written (steps + 1)
answer_of steps (Next.Asked b) = Answer.Asked b (steps + 1)

-- What a step makes of its lane, the pool's top and the lent memories. A refusal changes none of them.
pub record Effect : Type 0 where
  pub acted : Acted
  pub memory : Memory

abbrev pub effect : Acted → Memory → Effect
effect b mem = record { acted = b; memory = mem }

abbrev pub effect_of : Lane → ℕ → Memory → Verdict → Effect
effect_of l top mem (Err r) = effect (refused_as l top r) mem
effect_of l top mem (Ok t) =
    effect
    (record { lane = advance t.next (lane_after t.change l); top = top_after t.change top; answer = Ok (answer_of l.steps t.next) })
    (memory_after t.change mem)

abbrev pub act_of : Bool → Terms → ℕ → ℕ → Lane → Memory → Option Turn → Effect
act_of fits z top q l mem t = effect_of l top mem (verdict_of fits z top q l mem t)

-- All that a step determines: the state, the answer and the lent memories.
pub record Outcome : Type 0 where
  pub stepped : Stepped
  pub memory : Memory

abbrev pub outcome : Stepped → Memory → Outcome
outcome r mem = record { stepped = r; memory = mem }

abbrev pub outcome_as : State → ℕ → Effect → Outcome
outcome_as s q e = outcome (stepped_as s q e.acted) e.memory

-- A step of process q whose turn is t,
abbrev pub step_by : State → ℕ → Memory → Option Turn → Outcome
step_by s q mem t = outcome_as s q (act_of (state_fits s) s.terms s.top q (lane_of s q) mem t)

-- and the turn is what the step list says.
abbrev pub turn_in : State → ℕ → Memory → Option Turn
turn_in s q mem = turn_of s.terms s.top q (lane_of s q) (marks_of s) mem

abbrev pub step_of : State → ℕ → Memory → Outcome
step_of s q mem = step_by s q mem (turn_in s q mem)
