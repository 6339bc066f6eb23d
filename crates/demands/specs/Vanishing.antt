-- "It got the reading, then 'empty'": what an answer has shown written stays written.
-- Assumes nothing.
use Rattle.std.specs.Prelude.{ℕ, ◌<◌, ◌≡◌, ◌⊎◌, ◌≢◌, true}
use mathlib.Core.List.{Memᴰ}
use Rattle.theory.specs.Array.{Ans, got, told, done, write}
use Rattle.theory.specs.Order.{Done}
use Rattle.demands.specs.Book.{busy, Book}

-- An answer shows that its cell, filled at first with y, is written: by another reading, or in so many words.
abbrev pub Shows : ℕ → Ans → Type 0
Shows y (got x t) = (x ≢ y) ⊎ (t ≡ true)
Shows y (told t) = t ≡ true
Shows y done = Unit {0}

-- A write of x in cell i stands in the book.
pub data Wrote (b : Book) (i x : ℕ) : Type 0 where
  once : (d : Done) → Memᴰ d b.ended → d.op ≡ write x → d.cell ≡ i → Wrote b i x
  still : (q began taken : ℕ) → b.doing q ≡ busy began (write x) i taken → Wrote b i x

-- An answer knows that the cell is written: it says so, and its reading is one that was written.
abbrev pub Knows : Book → ℕ → Ans → Type 0
Knows b i (got x t) = Wrote b i x × (t ≡ true)
Knows b i (told t) = t ≡ true
Knows b i done = Unit {0}

-- An answer to an operation that began after one that showed the cell written knows that it is written.
abbrev pub NothingVanishes : (ℕ → ℕ) → Book → Type 0
NothingVanishes f b =
    (d e : Done) → Memᴰ d b.ended → Memᴰ e b.ended → d.ended < e.began → d.cell ≡ e.cell → Shows (f e.cell) d.ans
    → Knows b e.cell e.ans
