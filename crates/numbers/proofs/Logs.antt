-- The number between two powers of two has the lower one's exponent: the machinery behind the laws of segments.
-- Assumes nothing.
use Rattle.std.specs.Prelude.{◌≡◌, ℕ, zero, suc, ◌+◌, ◌/◌, ◌^◌, ◌<◌, ◌≤◌, refl}
use Rattle.std.proofs.Common.{ap, lt_of_not-le, arith, add-one, lt-ltb, le-ltb, pow_pos, pow_mono}
use Rattle.std.proofs.Math.Nat.{two-pow-succ}
use Rattle.std.proofs.lemmas.Nat.{leading_top}
use Rattle.numbers.specs.Numbers.{log_in, log2, segment_of}

-- the next power, with its exponent as the laws write it
pub double : (k : ℕ) → 2 ^ (k + 1) ≡ 2 ^ k + 2 ^ k
double k = rw (add-one k) (two-pow-succ k)

pub double_next : (k : ℕ) → 2 ^ (k + 2) ≡ 2 ^ (k + 1) + 2 ^ (k + 1)
double_next k = let e : k + 2 ≡ suc (k + 1) = omega arith in rw e (two-pow-succ (k + 1))

below_power : (n : ℕ) → n < 2 ^ n
below_power zero = omega arith
below_power (suc n) =
    let h = below_power n in
    let two = two-pow-succ n in
    omega arith

log_at : (k f x : ℕ) → x ≤ f → 2 ^ k ≤ x → x < 2 ^ k + 2 ^ k → log_in f x ≡ k
unfolding log_in
log_at zero zero x hf lo hi = refl
log_at zero (suc f) x hf lo hi = rw (lt-ltb x 2 hi)
log_at (suc k) zero x hf lo hi = absurd (omega (arith, pow_pos (suc k)))
log_at (suc k) (suc f) x hf lo hi =
    let two = two-pow-succ k in
    let pos = pow_pos k in
    let big : 2 ≤ x = omega arith in
    rw (le-ltb x 2 big) (ap suc (log_at k f (x / 2) (omega arith) (omega arith) (omega arith)))

-- a place's segment is told by the two powers around the place plus 2
pub segment_at : (n s : ℕ) → 2 ^ (s + 1) ≤ n + 2 → n + 2 < 2 ^ (s + 2) → segment_of n ≡ s
unfolding segment_of log2
segment_at n s lo hi =
    let two = double_next s in
    let e : log_in (n + 2) (n + 2) ≡ s + 1 = log_at (s + 1) (n + 2) (n + 2) (omega arith) (omega arith) (omega arith) in
    omega arith

-- What is known of a place by the highest digit j of half of the place plus 2, which fits a word where the place does.
pub record Around (n j : ℕ) : Type 0 where
  pub low : 2 ^ (j + 1) ≤ n + 2
  pub high : n + 2 < 2 ^ (j + 2)
  pub segment : segment_of n ≡ j

pub around : (n j : ℕ) → 2 ^ j ≤ n / 2 + 1 → n / 2 + 1 < 2 ^ suc j → Around n j
around n j lo hi =
    let one = double j in
    let two = double_next j in
    let up = two-pow-succ j in
    let l : 2 ^ (j + 1) ≤ n + 2 = omega arith in
    let h : n + 2 < 2 ^ (j + 2) = omega arith in
    record { low = l; high = h; segment = segment_at n j l h }

-- every place has such a digit, so its segment is told
pub segment_around : (n : ℕ) → Around n (segment_of n)
segment_around n =
    let t = leading_top (n / 2 + 1) (n / 2 + 1) (omega arith) (below_power (n / 2 + 1)) in
    let a = around n t.0 t.2 t.3 in
    rw a.segment a

-- a place before the segment s lies in one before it
pub segment_below : (n s : ℕ) → n + 2 < 2 ^ (s + 1) → segment_of n < s
segment_below n s h =
    lt_of_not-le (λ (g : s ≤ segment_of n).
    let a = segment_around n in
    let k : s + 1 ≤ segment_of n + 1 = omega arith in
    let p : 2 ^ (s + 1) ≤ 2 ^ (segment_of n + 1) = pow_mono k in
    omega arith)
