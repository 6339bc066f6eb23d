-- A kind of array: its machine by its step list, and what the demands read off its states and asks.
-- Assumes nothing.
use Rattle.std.specs.Prelude.{ℕ, Option}
use Rattle.acts.specs.Calls.{cell_of, turn_in}
use Rattle.acts.specs.Worlds.{Machine, grid}
use Rattle.theory.specs.Array as Array
use Rattle.demands.specs.Types.{Cell, State, Memory, Turn, Ask}

pub record Kind (S A : Type 0) : Type 0 where
  -- by the definitions that the promises of `open`, `begin` and `step` cite
  pub ours : Machine S A
  -- which operation of the array is asked, and of which cell
  pub op : A → Array.Op
  pub cell : A → Cell
  -- of a state: its numbers and lanes
  pub grid : S → State
  -- what the step list says for the next step of process q
  pub turn : S → ℕ → Memory → Option Turn

-- Document 01's array: read, asked, write.
abbrev pub ask_op : Ask → Array.Op
ask_op (Ask.Read i) = Array.read
ask_op (Ask.Write i v) = Array.write v
ask_op (Ask.Asked i) = Array.asked

abbrev pub writing : Kind State Ask
writing = record { ours = grid; op = ask_op; cell = cell_of; grid = λ s. s; turn = turn_in }
