-- The array that answers are measured against: source 004, section 1, with "asked".
-- Assumes nothing.
use Rattle.std.specs.Prelude.{Bool, true, false, List, [], ◌∷◌, ℕ}
use Rattle.std.proofs.Math.Decide.{ℕ_discrete}
use Rattle.theory.specs.Base.{pick}

-- what is asked of a cell, and what is answered
pub data Op : Type 0 where
  read : Op
  asked : Op
  write : ℕ → Op

pub data Ans : Type 0 where
  got : ℕ → Bool → Ans
  told : Bool → Ans
  done : Ans

-- The operations that count as a write.
abbrev pub Writing : Op → Type 0
Writing read = ⊥
Writing asked = ⊥
Writing (write v) = Unit {0}

-- an operation on a cell
pub record Deed : Type 0 where
  pub op : Op
  pub cell : ℕ

-- A write sets its cell; nothing else changes a cell.
abbrev pub value_by : Op → ℕ → ℕ → ℕ → ℕ
value_by read c i old = old
value_by asked c i old = old
value_by (write v) c i old = pick (ℕ_discrete c i) v old

abbrev pub written_by : Op → ℕ → ℕ → Bool → Bool
written_by read c i old = old
written_by asked c i old = old
written_by (write v) c i old = pick (ℕ_discrete c i) true old

-- what cell i holds after the operations of a list, the newest first: at first f i
unfoldable pub value : (ℕ → ℕ) → List Deed → ℕ → ℕ
value f [] i = f i
value f (d ∷ ds) i = value_by d.op d.cell i (value f ds i)

-- whether a write of cell i is among them
unfoldable pub written : List Deed → ℕ → Bool
written [] i = false
written (d ∷ ds) i = written_by d.op d.cell i (written ds i)

-- The array's answer to an operation after the operations of a list
abbrev pub answer : (ℕ → ℕ) → List Deed → Op → ℕ → Ans
answer f ds read i = got (value f ds i) (written ds i)
answer f ds asked i = told (written ds i)
answer f ds (write v) i = done
