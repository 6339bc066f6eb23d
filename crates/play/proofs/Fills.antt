-- The parts of the filled arrays that a grid is lent hold the fill.
-- Assumes nothing.
use Rattle.std.specs.Prelude.{ℕ, ◌≤◌, ◌≡◌, take, replicate}
use Rattle.std.proofs.Common.{arith}
use Rattle.numbers.specs.Numbers.{most_processes, directory_words, pool_words}
use Rattle.qhs.specs.declared.Header.{Header}
use Rattle.qhs.specs.Qhs.{most_file_cells}
use Rattle.qhs.specs.Parts.{part_is}
use Rattle.steps.specs.Memory.{memory}
use Rattle.play.specs.Play.{low_of, filled, cell_room, directory_room, pool_room}

-- the arrays' lengths by names, so that no check writes thousands of words out
pub filled_is : (h : Header) (a b c entries words : ℕ) → h.p ≤ most_processes → h.m ≤ most_file_cells → a ≡ cell_room → b ≡ directory_room → c ≡ pool_room
    → entries ≡ directory_words h.p → words ≡ pool_words h.p h.m
    → memory
    (take h.m (replicate a (low_of h)))
    (take h.m (replicate a h.fill))
    (take entries (replicate b (low_of h)))
    (take words (replicate c (low_of h)))
    ≡ filled h
filled_is h a b c entries words lp lm ia ib ic e w =
    rw (
      part_is h.m a (low_of h) (omega arith),
      part_is h.m a h.fill (omega arith),
      part_is entries b (low_of h) (omega arith),
      part_is words c (low_of h) (omega arith),
      e,
      w,
    )
