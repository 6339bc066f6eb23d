-- A run with its ghosts, and where an operation stands in the order so far.
-- Assumes nothing.
use Rattle.std.specs.Prelude.{◌≢◌, ℕ}
use mathlib.Core.List.{List, Memᴰ}
use Rattle.theory.specs.Array.{Op, Ans}
use Rattle.theory.specs.Order.{Entry}
use Rattle.theory.specs.Machine.{Grid, Link, Watch}

-- a run and two ghosts: the order so far, the newest first, and how many places of each lane have ever been used
pub record World : Type 0 where
  pub w : Watch
  pub log : List Entry
  pub used : ℕ → ℕ

-- A third ghost, `old_link`: the link of each cell before it was ever swapped. A cell is swapped where its link is another.
module _ (G : Grid) (old_link : ℕ → Link) (W : World) where
  abbrev pub Swapped : ℕ → Type 0
  Swapped i = W.w.mem.link i ≢ old_link i

  -- process q's operation is in the order, with its answer; or it is not
  abbrev pub Placed : ℕ → Op → ℕ → Ans → Type 0
  Placed q o i a = (t : ℕ) × Memᴰ (record { at = t; began = W.w.since q; who = q; op = o; cell = i; ans = a }) W.log

  abbrev pub Unplaced : ℕ → Type 0
  Unplaced q = (e : Entry) → Memᴰ e W.log → e.began ≢ W.w.since q
