-- Five shams, an open that refuses everything, and a write that ends twice.
-- Assumes nothing.
use Rattle.std.specs.Prelude.{ℕ, zero, suc, ◌+◌, List, [], ◌∷◌, Ok, Err}
use Rattle.lanes.specs.Ranges.{lane_of}
use Rattle.acts.specs.Calls.{Outcome, outcome, step_of, settled, with_op, fresh, closed}
use Rattle.demands.specs.Types.{Refusal, Cell, Terms, Check, Marking, Op, State, Memory, Ask, Answer, Response}
use Rattle.demands.specs.Kinds.{writing}
use Rattle.acts.specs.Worlds.{Machine, grid, Call, World}
use Rattle.demands.specs.Book.{Run, run, start}
use Rattle.demands.specs.Demand1.{refused_on, unchanged}
use Rattle.demands.specs.Demanded.{Demanded}
use Rattle.bridge.specs.Refused.{stays}
use Rattle.broken.specs.Mistakes.{stepping}
use Rattle.broken.specs.Lost.{cell, terms, opened, stray, ◌then◌, writes, reads, steps}

-- one process, one cell, an old link that names no process
abbrev pub one : Terms
one = terms 1 1

-- the grid, with other answers to its steps
abbrev pub answering : (Response → Response) → Outcome → Outcome
answering h o = outcome (record { state = o.stepped.state; answer = h o.stepped.answer }) o.memory

abbrev pub after : Machine State Ask → List (Call Ask one) → Run State
after M calls = run writing M (start (opened 1 1 (stray ∷ []))) calls

-- ---- 1. One that refuses everything breaks demand 1's table.

abbrev pub refuser : Machine State Ask
refuser = record {
  opens = grid.opens;
  begin = λ s q a. refused_on s Refusal.OutOfRange;
  step = λ s q mem. unchanged s mem Refusal.OutOfRange;
}

-- ---- 2. One with a fixed answer breaks demand 2 at the first written cell.

abbrev pub fixed_answer : Response → Response
fixed_answer (Ok Answer.Begun) = Ok Answer.Begun
fixed_answer (Ok Answer.Going) = Ok Answer.Going
fixed_answer (Ok (Answer.Read v t n)) = Ok (Answer.Read 7 t n)
fixed_answer (Ok (Answer.Written n)) = Ok (Answer.Written n)
fixed_answer (Ok (Answer.Asked t n)) = Ok (Answer.Asked t n)
fixed_answer (Err r) = Err r

abbrev pub fixed : Machine State Ask
fixed = stepping (λ s q mem. answering fixed_answer (step_of s q mem))

abbrev pub written_then_read : List (Call Ask one)
written_then_read = writes 0 0 9 then steps 0 7 then reads 0 0 then steps 0 5

-- ---- 3. One whose steps change nothing breaks demand 3, since no operation ends.

abbrev pub going_on : State → Memory → Response → Outcome
going_on s mem (Ok Answer.Begun) = outcome (record { state = s; answer = Ok Answer.Going }) mem
going_on s mem (Ok Answer.Going) = outcome (record { state = s; answer = Ok Answer.Going }) mem
going_on s mem (Ok (Answer.Read v t n)) = outcome (record { state = s; answer = Ok Answer.Going }) mem
going_on s mem (Ok (Answer.Written n)) = outcome (record { state = s; answer = Ok Answer.Going }) mem
going_on s mem (Ok (Answer.Asked t n)) = outcome (record { state = s; answer = Ok Answer.Going }) mem
going_on s mem (Err r) = outcome (stays s r) mem

abbrev pub idler : Machine State Ask
idler = stepping (λ s q mem. going_on s mem (step_of s q mem).stepped.answer)

abbrev pub four_steps : List (Call Ask one)
four_steps = reads 0 0 then steps 0 4

-- ---- 4. One that does a whole write in its first step and idles through the rest breaks the step list.

-- the grid's steps of process q, n of them, whatever they answer
abbrev pub hurried : ℕ → State → ℕ → Memory → World State
hurried zero s q mem = record { state = s; memory = mem }
hurried (suc n) s q mem = let o = step_of s q mem in hurried n o.stepped.state q o.memory

-- the write is done; what is left of it is to look, and to find it done
abbrev pub idling : World State → ℕ → Cell → Outcome
idling w q i =
    outcome
    (record { state = settled w.state q (with_op (lane_of w.state q) 1 (Op.Write i Check.Link)) w.state.top; answer = Ok Answer.Going })
    w.memory

abbrev pub hasty : State → ℕ → Memory → Op → Outcome
hasty s q mem Op.Idle = step_of s q mem
hasty s q mem (Op.Read i c) = step_of s q mem
hasty s q mem (Op.Reading i) = step_of s q mem
hasty s q mem (Op.Asked i c) = step_of s q mem
hasty s q mem (Op.Store i v) = idling (hurried 11 s q mem) q i
hasty s q mem (Op.Write i c) = step_of s q mem
hasty s q mem (Op.Marking i k) = step_of s q mem

abbrev pub hasty_one : Machine State Ask
hasty_one = stepping (λ s q mem. hasty s q mem (lane_of s q).op)

-- ---- 5. One that invents step counts breaks demand 3.

abbrev pub one_more : Response → Response
one_more (Ok Answer.Begun) = Ok Answer.Begun
one_more (Ok Answer.Going) = Ok Answer.Going
one_more (Ok (Answer.Read v t n)) = Ok (Answer.Read v t (n + 1))
one_more (Ok (Answer.Written n)) = Ok (Answer.Written (n + 1))
one_more (Ok (Answer.Asked t n)) = Ok (Answer.Asked t (n + 1))
one_more (Err r) = Err r

abbrev pub inventor : Machine State Ask
inventor = stepping (λ s q mem. answering one_more (step_of s q mem))

abbrev pub begun_read : List (Call Ask one)
begun_read = reads 0 0

-- ---- A write that ends twice breaks demand 3: each operation ends once.

abbrev pub ends_again : Outcome → ℕ → Response → Outcome
ends_again o q (Ok Answer.Begun) = o
ends_again o q (Ok Answer.Going) = o
ends_again o q (Ok (Answer.Read v t n)) = o
ends_again o q (Ok (Answer.Asked t n)) = o
ends_again o q (Err r) = o
ends_again o q (Ok (Answer.Written n)) =
    let s = o.stepped.state in
    let l = lane_of s q in
    outcome
    (record { state = settled s q (with_op l 0 (Op.Marking (cell 0) (Marking.TakeBack (record { 0 = l.marks })))) s.top; answer = Ok (Answer.Written n) })
    o.memory

abbrev pub twice : Machine State Ask
twice = stepping (λ s q mem. let o = step_of s q mem in ends_again o q o.stepped.answer)

abbrev pub once_written : List (Call Ask one)
once_written = writes 0 0 9 then steps 0 7

-- ---- An open that refuses everything breaks demand 1's table for open.

abbrev pub closed_one : Machine State Ask
closed_one = record {
  opens = λ z mem. record { state = fresh closed; opening = Err Refusal.LentLength };
  begin = grid.begin;
  step = grid.step;
}

-- ---- So none of them is what is demanded.

abbrev pub No : Machine State Ask → Type 0
No M = Demanded M → ⊥
