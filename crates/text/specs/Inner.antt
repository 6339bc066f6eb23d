-- What functions inside the crate promise of an answer's line; no statement cites it.
-- Assumes nothing.
use Rattle.std.specs.Prelude.{ℕ, ◌+◌, ◌≤◌, length}
use Rattle.byte_lists.specs.Lines.{Grown, Made}
use Rattle.byte_lists.specs.declared.line.Line.{Line}
use Rattle.text.specs.Text.{saying, answer_line}
use Rattle.byte_lists.specs.Bytes.{decimal}
use Rattle.acts.specs.Calls.{Response}

-- An answer was added, and is short.
pub record Said (l r : Line) (a : Response) : Type 0 where
  pub grown : Grown l r (saying a)
  pub short : length (saying a) ≤ 21

-- A line is an answer's, and is short.
pub record Answered (k : ℕ) (a : Response) (r : Line) : Type 0 where
  pub made : Made r (answer_line k a)
  pub short : length (answer_line k a) ≤ length (decimal k) + 23
