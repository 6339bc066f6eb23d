-- What a write-then-mark operation owes to the order: where it stands in it, or that it does not yet.
-- Assumes nothing.
use Rattle.std.specs.Prelude.{◌≡◌, true, false, ℕ}
use Rattle.theory.specs.Array.{Op, read, asked, write, got, told, done, Writing}
use Rattle.theory.specs.Machine.{Grid, Link, Lane, idle, busy}
use Rattle.theory.specs.Standing.{After}
use Rattle.theory.specs.Order.{written_in}
use Rattle.theory.specs.World.{World, Placed, Unplaced}

-- the operation is a write of v
abbrev pub Writes : Op → ℕ → Type 0
Writes read v = ⊥
Writes asked v = ⊥
Writes (write x) v = x ≡ v

-- the lane's operation is a write of v to cell i that has stored
abbrev pub Stored : Lane → ℕ → ℕ → Type 0
Stored idle i v = ⊥
Stored (busy o c g) i v = Writes o v × (c ≡ i) × After g

module _ (G : Grid) (old_link : ℕ → Link) (W : World) where
  -- a write that has stored is in the order exactly if its cell is written
  pub record Wrote (q : ℕ) (o : Op) (i : ℕ) : Type 0 where
    pub v : ℕ
    pub is : Writes o v
    pub new : written_in W.log i ≡ true → Placed G old_link W q o i done
    pub old : written_in W.log i ≡ false → Unplaced G old_link W q

  -- an operation that begins its check
  abbrev pub Fresh : ℕ → Op → ℕ → Type 0
  Fresh q read i = Unplaced G old_link W q
  Fresh q asked i = Unplaced G old_link W q
  Fresh q (write v) i = Wrote q (write v) i

  -- a check that has read the swapped link, and one that has read the old link
  abbrev pub Sure : ℕ → Op → ℕ → Type 0
  Sure q read i = Unplaced G old_link W q
  Sure q asked i = Placed G old_link W q asked i (told true)
  Sure q (write v) i = Wrote q (write v) i

  abbrev pub Dud : ℕ → Op → ℕ → Type 0
  Dud q read i = Placed G old_link W q read i (got (G.f i) false)
  Dud q asked i = Placed G old_link W q asked i (told false)
  Dud q (write v) i = Wrote q (write v) i

  -- an operation that marks: a write that has stored
  abbrev pub Mine : ℕ → Op → ℕ → Type 0
  Mine q read i = ⊥
  Mine q asked i = ⊥
  Mine q (write v) i = Wrote q (write v) i

  pub mine_writes : (q : ℕ) (o : Op) (i : ℕ) → Mine q o i → Writing o
  mine_writes q read i h = h
  mine_writes q asked i h = h
  mine_writes q (write v) i h = tt
