-- What a read answers along an order.
-- Assumes nothing.
use Rattle.std.specs.Prelude.{◌≡◌, Bool, ℕ}
use Rattle.std.proofs.Common.{sym, ap, ◌∙◌}
use mathlib.Core.List.{List}
use Rattle.theory.specs.Array.{read, got, answer}
use Rattle.theory.specs.Order.{Entry, deeds, value_in, written_in}

-- a read answers what the cell holds and whether it is written
pub read_answers : (f : ℕ → ℕ) (es : List Entry) (i v : ℕ) (b : Bool) → value_in f es i ≡ v → written_in es i ≡ b → got v b ≡ answer f (deeds es) read i
read_answers f es i v b e h = ap (λ (x : ℕ). got x b) (sym e) ∙ ap (λ (x : Bool). got (value_in f es i) x) (sym h)
