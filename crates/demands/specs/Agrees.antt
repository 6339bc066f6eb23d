-- The state agrees with the book: "the operation under way if any, and its own steps so far".
-- Assumes nothing.
use Rattle.std.specs.Prelude.{ℕ, ◌≡◌}
use Rattle.numbers.specs.Cells.{index_of}
use Rattle.lanes.specs.Ranges.{lane_of}
use Rattle.theory.specs.Array as Array
use Rattle.demands.specs.Types.{Terms, Op, Lane, State}
use Rattle.demands.specs.Book.{Doing, nothing, busy, Book}

-- The operation is the one asked, of the same cell, at some stage; a write that has still to store holds its value.
module _ (z : Terms) where
  abbrev pub Does : Array.Op → ℕ → Op → Type 0
  Does o i Op.Idle = ⊥
  Does Array.read i (Op.Read j c) = index_of z j ≡ i
  Does Array.asked i (Op.Read j c) = ⊥
  Does (Array.write v) i (Op.Read j c) = ⊥
  Does Array.read i (Op.Reading j) = index_of z j ≡ i
  Does Array.asked i (Op.Reading j) = ⊥
  Does (Array.write v) i (Op.Reading j) = ⊥
  Does Array.read i (Op.Asked j c) = ⊥
  Does Array.asked i (Op.Asked j c) = index_of z j ≡ i
  Does (Array.write v) i (Op.Asked j c) = ⊥
  Does Array.read i (Op.Store j w) = ⊥
  Does Array.asked i (Op.Store j w) = ⊥
  Does (Array.write v) i (Op.Store j w) = (index_of z j ≡ i) × (w ≡ v)
  Does Array.read i (Op.Write j c) = ⊥
  Does Array.asked i (Op.Write j c) = ⊥
  Does (Array.write v) i (Op.Write j c) = index_of z j ≡ i
  Does Array.read i (Op.Marking j k) = ⊥
  Does Array.asked i (Op.Marking j k) = ⊥
  Does (Array.write v) i (Op.Marking j k) = index_of z j ≡ i

  -- A lane is idle exactly if its process is doing nothing; else it has the operation asked, and the book's count of steps.
  abbrev pub LaneAgrees : Lane → Doing → Type 0
  LaneAgrees l nothing = (l.op ≡ Op.Idle) × (l.steps ≡ 0)
  LaneAgrees l (busy began o i taken) = Does o i l.op × (l.steps ≡ taken)

  -- What was given to open stays.
  pub record Agrees (s : State) (b : Book) : Type 0 where
    pub same_terms : s.terms ≡ z
    pub lanes : (q : ℕ) → LaneAgrees (lane_of s q) (b.doing q)
