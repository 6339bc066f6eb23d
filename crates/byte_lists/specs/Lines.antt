-- What functions of this crate and above it promise of a line that is being made; no statement cites it.
-- Assumes nothing.
use Rattle.std.specs.Prelude.{ℕ, ◌≡◌, List, ◌++◌, take}
use Rattle.byte_lists.specs.declared.line.Line.{Line}

-- The most bytes that a line takes, and those that it has so far.
abbrev pub room : ℕ
room = 64

abbrev pub cut : List ℕ → List ℕ
cut bytes = take room bytes

abbrev pub so_far : Line → List ℕ
so_far l = take l.len l.bytes

-- A line to which bytes were added: what goes past its room is cut off.
pub record Grown (l r : Line) (bytes : List ℕ) : Type 0 where
  pub is : so_far r ≡ cut (so_far l ++ bytes)

-- A line that is done.
pub record Made (r : Line) (bytes : List ℕ) : Type 0 where
  pub is : so_far r ≡ bytes
