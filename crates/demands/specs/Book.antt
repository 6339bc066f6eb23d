-- What an observer writes down, from calls and answers alone, never from the state.
-- Assumes nothing.
use Rattle.std.specs.Prelude.{ℕ, suc, List, [], ◌∷◌, Ok, Err}
use Rattle.numbers.specs.Cells.{index_of}
use Rattle.acts.specs.Worlds.{Machine, Call, begin, step, misfit, World, answer_to, world_after}
use Rattle.theory.specs.Base.{upd}
use Rattle.theory.specs.Array.{Op, read, asked, write, Ans, got, told, done}
use Rattle.theory.specs.Order.{Done}
use Rattle.demands.specs.Types.{Terms, Answer, Response}
use Rattle.demands.specs.Kinds.{Kind}

-- A process is doing nothing, or is busy: since which call, with which operation of which cell, after how many accepted steps.
pub data Doing : Type 0 where
  nothing : Doing
  busy : (began : ℕ) (op : Op) (cell taken : ℕ) → Doing

-- A call's number is the count of the calls before it; `now` is the next one's.
-- `cells i`, `procs q`: 1 once an operation that counts as a write, of the cell, by the process, has begun, and 0 before.
pub record Book : Type 0 where
  pub now : ℕ
  pub doing : ℕ → Doing
  pub ended : List Done
  pub cells : ℕ → ℕ
  pub procs : ℕ → ℕ

abbrev pub blank : Book
blank = record { now = 0; doing = λ q. nothing; ended = []; cells = λ i. 0; procs = λ q. 0 }

-- Set to 1 by a write.
abbrev pub tallied : (ℕ → ℕ) → ℕ → Op → ℕ → ℕ
tallied f k read = f
tallied f k asked = f
tallied f k (write v) = upd f k 1

-- A call that begins nothing and is no step of an operation.
abbrev pub passed : Book → Book
passed b = record { now = suc b.now; doing = b.doing; ended = b.ended; cells = b.cells; procs = b.procs }

abbrev pub begun : Book → ℕ → Op → ℕ → Book
begun b q o i = record {
  now = suc b.now;
  doing = upd b.doing q (busy b.now o i 0);
  ended = b.ended;
  cells = tallied b.cells i o;
  procs = tallied b.procs q o;
}

-- One more accepted step of process q, after which it is doing d.
abbrev pub counted : Book → ℕ → Doing → List Done → Book
counted b q d ended = record { now = suc b.now; doing = upd b.doing q d; ended = ended; cells = b.cells; procs = b.procs }

abbrev pub finished : Book → ℕ → ℕ → Op → ℕ → Ans → Done
finished b q began o i x = record { began = began; ended = b.now; who = q; op = o; cell = i; ans = x }

-- Demand 3 forbids that a step of a process that is doing nothing is accepted: there is nothing to write down.
abbrev pub goes_on : Book → ℕ → Doing → Book
goes_on b q nothing = passed b
goes_on b q (busy began o i taken) = counted b q (busy began o i (suc taken)) b.ended

abbrev pub ends : Book → ℕ → Doing → Ans → Book
ends b q nothing x = passed b
ends b q (busy began o i taken) x = counted b q nothing (finished b q began o i x ∷ b.ended)

abbrev pub note_begin : Book → ℕ → Op → ℕ → Response → Book
note_begin b q o i (Ok Answer.Begun) = begun b q o i
note_begin b q o i (Ok Answer.Going) = passed b
note_begin b q o i (Ok (Answer.Read v t n)) = passed b
note_begin b q o i (Ok (Answer.Written n)) = passed b
note_begin b q o i (Ok (Answer.Asked t n)) = passed b
note_begin b q o i (Err r) = passed b

abbrev pub note_step : Book → ℕ → Response → Book
note_step b q (Ok Answer.Begun) = passed b
note_step b q (Ok Answer.Going) = goes_on b q (b.doing q)
note_step b q (Ok (Answer.Read v t n)) = ends b q (b.doing q) (got v t)
note_step b q (Ok (Answer.Written n)) = ends b q (b.doing q) done
note_step b q (Ok (Answer.Asked t n)) = ends b q (b.doing q) (told t)
note_step b q (Err r) = passed b

-- A run: the world after any calls, one after the other, and the book kept of them. A cell is written down by its index.
pub record Run (S : Type 0) : Type 0 where
  pub world : World S
  pub book : Book

abbrev pub start : {S : Type 0} → World S → Run S
start w = record { world = w; book = blank }

module _ {S A : Type 0} (K : Kind S A) where
  abbrev pub noted : {z : Terms} → Book → Call A z → Response → Book
  noted {z} b (begin q a) x = note_begin b q (K.op a) (index_of z (K.cell a)) x
  noted b (step q) x = note_step b q x
  noted b (misfit q mem h) x = note_step b q x

  abbrev pub next : {z : Terms} → Machine S A → Run S → Call A z → Run S
  next M r c = record { world = world_after M r.world c; book = noted r.book c (answer_to M r.world c) }

  unfoldable pub run : {z : Terms} → Machine S A → Run S → List (Call A z) → Run S
  run M r [] = r
  run M r (c ∷ cs) = run M (next M r c) cs
