-- How long the program's lines are.
-- Assumes nothing.
use Rattle.std.specs.Prelude.{ℕ, ◌<◌, ◌≤◌, ◌++◌, length}
use Rattle.std.proofs.Common.{arith, length-append}
use Rattle.refusals.specs.Numbers.{number_of}
use Rattle.refusals.specs.Laws.{number_below}
use Rattle.refusals.specs.declared.Refusal.{Refusal}
use Rattle.text.specs.Text.{sizes_line, file_refused_line}
use Rattle.byte_lists.specs.Bytes.{word, newline, decimal}
use Rattle.byte_lists.specs.Decimals.{decimal_short}

pub sizes_short : (p m : ℕ) → p < 100 → m < 10000 → length (sizes_line p m) ≤ 24
unfolding sizes_line
sizes_short p m h k =
    omega (
      arith,
      decimal_short 1 p (omega arith),
      decimal_short 3 m (omega arith),
      length-append (word "processes ") (decimal p ++ (word " cells " ++ (decimal m ++ newline))),
      length-append (decimal p) (word " cells " ++ (decimal m ++ newline)),
      length-append (word " cells ") (decimal m ++ newline),
      length-append (decimal m) newline,
    )

pub file_refused_short : (r : Refusal) → length (file_refused_line r) ≤ 16
unfolding file_refused_line
file_refused_short r =
    omega (
      arith,
      decimal_short 1 (number_of r) (omega (arith, number_below r)),
      length-append (word "file refused ") (decimal (number_of r) ++ newline),
      length-append (decimal (number_of r)) newline,
    )
