-- What follows from the segments' shape: neighbouring places, and that a segment and an offset name one place.
-- Assumes nothing.
use Rattle.std.specs.Prelude.{◌≡◌, ℕ, zero, suc, ◌+◌, ◌^◌, ◌≤◌, ◌<◌}
use Rattle.std.proofs.Common.{sym, arith, pow_mono}
use Rattle.std.proofs.Math.Decide.{dec_lt}
use Rattle.theory.specs.Shape.{Shape}

module _ (S : Shape) where
  -- the bounds say which segment it is
  seg_unique : (n s : ℕ) → 2 ^ suc s ≤ n + 2 → n + 2 < 2 ^ suc (suc s) → s ≡ S.seg n
  seg_unique n s lo hi = by (dec_lt s (S.seg n)) (dec_lt (S.seg n) s)
    where
      by : Dec (s < S.seg n) → Dec (S.seg n < s) → s ≡ S.seg n
      by (yes h) d = absurd (let y : ⊥ = omega (arith, pow_mono {i = suc (suc s)} {j = suc (S.seg n)} (omega arith), S.low n) in y)
      by (no h) (yes k) = absurd (let y : ⊥ = omega (arith, pow_mono {i = suc (suc (S.seg n))} {j = suc s} (omega arith), S.high n) in y)
      by (no h) (no k) = omega arith

  pub seg_first : S.seg 0 ≡ 0
  seg_first = sym (seg_unique 0 0 (omega arith) (omega arith))

  pub seg_second : S.seg 1 ≡ 0
  seg_second = sym (seg_unique 1 0 (omega arith) (omega arith))

  pub seg_next : (n : ℕ) → S.seg (suc n) ≤ suc (S.seg n)
  seg_next n = by (dec_lt (suc (S.seg n)) (S.seg (suc n)))
    where
      by : Dec (suc (S.seg n) < S.seg (suc n)) → S.seg (suc n) ≤ suc (S.seg n)
      by (yes h) =
          absurd
          (let y : ⊥ = omega (arith, pow_mono {i = suc (suc (suc (S.seg n)))} {j = suc (S.seg (suc n))} (omega arith), S.high n, S.low n, S.low (suc n)) in
          y)
      by (no h) = omega arith

  -- every segment has at least two places
  pub seg_double : (n : ℕ) → S.seg n < S.seg (suc n) → S.seg (suc (suc n)) ≡ S.seg (suc n)
  seg_double n h =
      sym
      (seg_unique (suc (suc n)) (S.seg (suc n)) (omega (arith, S.low (suc n)))
      (omega (arith, S.high n, S.low (suc n), pow_mono {i = suc (suc (S.seg n))} {j = suc (S.seg (suc n))} (omega arith))))

  pub off_inside : (n : ℕ) → S.off n < 2 ^ suc (S.seg n)
  off_inside n = omega (arith, S.at n, S.high n)

  pub off_apart : (n k : ℕ) → S.seg n ≡ S.seg k → S.off n ≡ S.off k → n ≡ k
  off_apart n k h z = let y : 2 ^ suc (S.seg n) ≡ 2 ^ suc (S.seg k) = cc in omega (arith, S.at n, S.at k)

pub pow_pos : (k : ℕ) → 1 ≤ 2 ^ k
pow_pos zero = omega arith
pow_pos (suc k) = omega (arith, pow_pos k)
