-- What the code of segments, offsets and sizes counts with.
-- Assumes nothing.
use Rattle.std.specs.Prelude.{◌≡◌, ℕ, suc, ◌+◌, ◌-◌, ◌/◌, ◌%◌, ◌^◌, ◌<◌, ◌≤◌}
use Rattle.std.proofs.Common.{sym, ap, ◌∙◌, arith, pow_pos, pow-add}
use native.Mathlib.Nat.{mul-mod_right}
use Rattle.numbers.specs.Numbers.{segment_of, offset_of, size_of}
use Rattle.numbers.proofs.Logs.{double, around}
use Rattle.numbers.proofs.Laws.{segment_bounds}

-- The highest digit of half of a place plus 2 is its segment.
pub segment_is : (n j : ℕ) → 2 ^ j ≤ n / 2 + 1 → n / 2 + 1 < 2 ^ suc j → j ≡ segment_of n
segment_is n j lo hi = sym (around n j lo hi).segment

-- Its power is some, and twice as much is no more than the place plus 2.
pub power_some : (n : ℕ) → 0 < 2 ^ segment_of n
power_some n = pow_pos (segment_of n)

pub power_low : (n : ℕ) → 2 ^ segment_of n + 2 ^ segment_of n ≤ n + 2
power_low n =
    let b = segment_bounds n in
    let two = double (segment_of n) in
    omega arith

-- A place plus 2 is its offset and twice the power of its segment.
pub offset_split : (n : ℕ) → offset_of n + (2 ^ segment_of n + 2 ^ segment_of n) ≡ n + 2
unfolding offset_of
offset_split n =
    let low = power_low n in
    let two = double (segment_of n) in
    omega arith

pub size_twice : (s : ℕ) → size_of s ≡ 2 ^ s + 2 ^ s
unfolding size_of
size_twice s = double s

-- Of a size of more than 64 bits nothing is left.
pub size_wide : (s : ℕ) → 63 ≤ s → size_of s % 18446744073709551616 ≡ 0
unfolding size_of
size_wide s h =
    let e : s + 1 ≡ 64 + (s - 63) = omega arith in
    ap (λ (k : ℕ). 2 ^ k % 18446744073709551616) e
    ∙ ap (λ (k : ℕ). k % 18446744073709551616) (pow-add 2 64 (s - 63))
    ∙ mul-mod_right 18446744073709551616 (2 ^ (s - 63))
