-- A draw within the ranges fits its fields.
-- Assumes nothing.
use mathlib.Core.Path.{◌≡◌}
use mathlib.Core.Bool.{true}
use Prim.Native.Nat.{ℕ, ◌+◌, ◌%◌, ◌<◌, ◌≤◌}
use native.Mathlib.Omega.{arith}
use borrow.Author.Tests.{leb-true}
use Rattle.numbers.specs.Numbers.{most_marks, most_segments, segment_of, size_of}
use Rattle.numbers.proofs.Laws.{segment_bounds, segment_few, size_word}
use Rattle.numbers.specs.declared.Place.{Place}
use Rattle.numbers.specs.declared.Terms.{Terms}
use Rattle.lanes.specs.Ranges.{place_fits, sizes_fit}
use Rattle.lanes.specs.Laws.{sized}

module _ (z : Terms) (top : ℕ) (n : Place) (h : sizes_fit z top ≡ true) (k : place_fits z n ≡ true) where
  pub drawn_few : segment_of n.0 < most_segments
  drawn_few = segment_few z.m n.0 (sized z top h).m_high (leb-true _ _ k)

  pub drawn_whole : size_of (segment_of n.0) % 18446744073709551616 ≡ size_of (segment_of n.0)
  drawn_whole = size_word (segment_of n.0) (omega (arith, drawn_few))

  pub drawn_top : top + size_of (segment_of n.0) < 4294967296
  unfolding size_of
  drawn_top =
      let s = sized z top h in
      let low : n.0 ≤ most_marks z.m = leb-true _ _ k in
      let b = (segment_bounds n.0).0 in
      omega arith
