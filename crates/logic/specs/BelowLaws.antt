-- What a test at every number below a bound shows, in place of its definition's text.
-- Assumes nothing.
use Rattle.std.specs.Prelude.{◌≡◌, refl, Bool, true, false, ◌&&◌, ℕ, zero, suc, ◌+◌, ◌<◌}
use Rattle.std.proofs.Common.{⊎_elim, add-one, arith, not-suc-le-zero, eq-or-lt_of_le}
use Rattle.logic.specs.Truth.{and_left, and_right}
use Rattle.logic.specs.Below.{below}

-- a test that passes below i, and at i, passes below i + 1
pub below_more : (i : ℕ) (f : ℕ → Bool) → (below i f && f i) ≡ below (i + 1) f
unfolding below
below_more i f = rw (add-one i)

pub below_next : (i : ℕ) (f : ℕ → Bool) → below i f ≡ true → f i ≡ true → below (i + 1) f ≡ true
unfolding below
below_next i f h k = rw (add-one i) (simp (h, k))

-- a test that passes below n passes at each number below n
pub below_at : (n i : ℕ) (f : ℕ → Bool) → i < n → below n f ≡ true → f i ≡ true
unfolding below
below_at zero i f h x = absurd (not-suc-le-zero h)
below_at (suc n) i f h x =
    ⊎_elim
    (λ (e : i ≡ n). rw e (and_right (below n f) (f n) x))
    (λ (e : i < n). below_at n i f e (and_left (below n f) (f n) x))
    (eq-or-lt_of_le (omega arith))

pub below_all : (n : ℕ) (f : ℕ → Bool) → ((k : ℕ) → k < n → f k ≡ true) → below n f ≡ true
unfolding below
below_all zero f h = refl
below_all (suc n) f h = simp (below_all n f (λ k l. h k (omega arith)), h n (omega arith))

pub below_fails : (n i : ℕ) (f : ℕ → Bool) → i < n → f i ≡ false → below n f ≡ false
below_fails n i f h x = by (below n f) refl
  where
    by : (b : Bool) → below n f ≡ b → b ≡ false
    by true e = let y = below_at n i f h e in cc
    by false e = refl
