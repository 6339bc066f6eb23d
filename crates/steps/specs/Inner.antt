-- What functions of this crate and above it promise of a part of the pool and of a step; no statement cites it.
-- Assumes nothing.
use Rattle.std.specs.Prelude.{ℕ, ◌+◌, ◌-◌, ◌<◌, ◌≤◌, ◌≡◌, List, Option, None, Some, leb, ltb, get_or, length}
use Rattle.numbers.specs.Numbers.{segment_of, offset_of, size_of}
use Rattle.logic.specs.Pick.{pick}

-- The marks in force that (b) reads, handed in by the caller: whichever process the link names.
unfoldable pub handed : ℕ → ℕ → ℕ
handed seen q = seen

abbrev pub word_in : List ℕ → ℕ → Option ℕ
word_in part at = pick (ltb at (length part)) (Some (get_or part at 0)) None

-- Where the segment's part of a pool of `len` words ends, which starts at `from`: with the segment, or with the pool.
abbrev pub part_end : ℕ → ℕ → ℕ → ℕ
part_end len from n = pick (leb (size_of (segment_of n)) (len - from)) (from + size_of (segment_of n)) len

-- It ends there, and so is inside the pool and holds the place's word.
pub record Part (len from n end : ℕ) : Type 0 where
  pub is : end ≡ part_end len from n
  pub low : from ≤ end
  pub high : end ≤ len
  pub cut : end ≤ from + size_of (segment_of n)
  pub holds : from + offset_of n < len → from + offset_of n < end
