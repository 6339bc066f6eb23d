-- One order of operations: what a list of operations, the newest first, has to say of itself.
-- Assumes nothing.
use Rattle.std.specs.Prelude.{◌≡◌, ◌⊎◌, ◌≢◌, Bool, ℕ, ◌≤◌, ◌<◌}
use mathlib.Core.List.{List, [], ◌∷◌, ◌++◌, Memᴰ}
use Rattle.theory.specs.Array.{Op, Ans, Deed, value, written, answer}

-- an operation that has ended: the numbers of the call that began it and of its last step
pub record Done : Type 0 where
  pub began : ℕ
  pub ended : ℕ
  pub who : ℕ
  pub op : Op
  pub cell : ℕ
  pub ans : Ans

-- an operation at its place in the order: `at` is the call at which it takes its place
pub record Entry : Type 0 where
  pub at : ℕ
  pub began : ℕ
  pub who : ℕ
  pub op : Op
  pub cell : ℕ
  pub ans : Ans

unfoldable pub deeds : List Entry → List Deed
deeds [] = []
deeds (e ∷ es) = record { op = e.op; cell = e.cell } ∷ deeds es

-- the array after the entries of a list
abbrev pub value_in : (ℕ → ℕ) → List Entry → ℕ → ℕ
value_in f es i = value f (deeds es) i

abbrev pub written_in : List Entry → ℕ → Bool
written_in es i = written (deeds es) i

-- What an entry says of those before it: its answer is the array's after them; it takes its place after the call that
-- began it, and not before any of them; and none of them is the same operation. (One call begins one operation at most.)
pub record Fits (f : ℕ → ℕ) (e : Entry) (es : List Entry) : Type 0 where
  pub right : e.ans ≡ answer f (deeds es) e.op e.cell
  pub after : e.began < e.at
  pub sorted : (d : Entry) → Memᴰ d es → d.at ≤ e.at
  pub once : (d : Entry) → Memᴰ d es → d.began ≢ e.began

abbrev pub Orderly : (ℕ → ℕ) → List Entry → Type 0
Orderly f [] = Unit {0}
Orderly f (e ∷ es) = Fits f e es × Orderly f es

-- the entry is this ended operation, and takes its place not after its last step
pub record Is (e : Entry) (d : Done) : Type 0 where
  pub began : e.began ≡ d.began
  pub who : e.who ≡ d.who
  pub op : e.op ≡ d.op
  pub cell : e.cell ≡ d.cell
  pub ans : e.ans ≡ d.ans
  pub intime : e.at ≤ d.ended

-- One order of ended operations, the newest first: each stands in it, and besides them only entries with this property.
pub record OrderOf (f : ℕ → ℕ) (ended : List Done) (Besides : Entry → Type 0) : Type 0 where
  pub order : List Entry
  pub orderly : Orderly f order
  pub complete : (d : Done) → Memᴰ d ended → (e : Entry) × Memᴰ e order × Is e d
  pub sound : (e : Entry) → Memᴰ e order → ((d : Done) × Memᴰ d ended × Is e d) ⊎ Besides e

-- the later order is the earlier one with entries put after it: in the list, newest first, in front of it
pub record Grown (earlier later : List Entry) : Type 0 where
  pub newer : List Entry
  pub split : later ≡ newer ++ earlier

-- d stands before e: in the list, newest first, d is among those behind e
pub record Before (d e : Entry) (order : List Entry) : Type 0 where
  pub newer : List Entry
  pub older : List Entry
  pub split : order ≡ newer ++ (e ∷ older)
  pub there : Memᴰ d older
