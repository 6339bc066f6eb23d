-- Where the segment's part of a pool ends.
-- Assumes nothing.
use mathlib.Core.Path.{◌≡◌, ◌∙◌}
use Prim.Native.Nat.{ℕ, ◌+◌, ◌-◌, ◌%◌, ◌<◌, ◌≤◌}
use native.Mathlib.Omega.{arith}
use borrow.Author.Tests.{le-leb, lt-leb}
use Rattle.numbers.specs.Numbers.{segment_of, size_of}
use Rattle.numbers.proofs.Laws.{offset_below, size_least, size_word}
use Rattle.steps.specs.Inner.{Part}

whole : (len from n : ℕ) → from < len → len - from < size_of (segment_of n) → Part len from n len
whole len from n h k = record { is = simp (lt-leb _ _ k); low = omega arith; high = omega arith; cut = omega arith; holds = λ x. x }

pub part_huge : (len from n : ℕ) → from < len → len < 18446744073709551616 → 63 ≤ segment_of n → Part len from n len
part_huge len from n h few k = whole len from n h (omega (arith, size_least (segment_of n) 63 k))

pub part_end : (len from n z : ℕ) → from < len → segment_of n < 63 → z ≡ size_of (segment_of n) % 18446744073709551616 → z ≤ len - from
    → Part len from n (from + z)
part_end len from n z h k f j =
    let same : z ≡ size_of (segment_of n) = f ∙ size_word (segment_of n) k in
    let o = offset_below n in
    let low : size_of (segment_of n) ≤ len - from = omega arith in
    record { is = simp (le-leb _ _ low) (rw same); low = omega arith; high = omega arith; cut = omega arith; holds = λ x. omega arith }
