-- A line that is done, and what is put of it.
-- Assumes nothing.
use Prim.Native.Nat.{ℕ, ◌<◌, ◌≤◌}
use mathlib.Core.Path.{◌≡◌, ap, ◌∙◌}
use mathlib.Core.List.{List, [], ◌++◌}
use native.Mathlib.Omega.{arith}
use lib.ListN.{length}
use lib.Seq.{take_all}
use Rattle.byte_lists.specs.Bytes.{decimal, Placed, put_of}
use Rattle.byte_lists.specs.Decimals.{decimal_short}
use Rattle.byte_lists.specs.declared.line.Line.{Line}
use Rattle.byte_lists.specs.Lines.{room, so_far, cut, Grown, Made}

-- a line from nothing that fits its room
pub made : (o r : Line) (bytes : List ℕ) → Made o [] → Grown o r bytes → length bytes ≤ room → Made r bytes
made o r bytes e g h =
    record { is = g.is ∙ ap (λ (xs : List ℕ). cut (xs ++ bytes)) e.is ∙ take_all room bytes h }

-- the line is what is put
pub put_made : (l : Line) (bytes out : List ℕ) (at : ℕ) (p : Placed) → Made l bytes → p ≡ put_of out at (so_far l) → p ≡ put_of out at bytes
put_made l bytes out at p m e = e ∙ ap (λ (xs : List ℕ). put_of out at xs) m.is

pub put_number : (o l : Line) (out : List ℕ) (at n : ℕ) (p : Placed) → n < 18446744073709551616 → Made o [] → Grown o l (decimal n)
    → p ≡ put_of out at (so_far l) → p ≡ put_of out at (decimal n)
put_number o l out at n p h m g e =
    put_made l (decimal n) out at p (made o l (decimal n) m g (omega (arith, decimal_short 19 n (omega arith)))) e
