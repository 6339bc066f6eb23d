-- An offset is less than half of its place plus 2, so that an address fits 64 bits.
-- Assumes nothing.
use Prim.Native.Nat.{ℕ, ◌+◌, ◌<◌}
use native.Mathlib.Omega.{arith}
use Rattle.numbers.specs.Numbers.{segment_of, offset_of}
use Rattle.numbers.proofs.Laws.{segment_bounds, place_at}
use Rattle.numbers.proofs.Logs.{double_next}

pub offset_half : (n : ℕ) → offset_of n + offset_of n < n + 2
offset_half n =
    let b = segment_bounds n in
    let at = place_at n in
    let two = double_next (segment_of n) in
    omega arith
