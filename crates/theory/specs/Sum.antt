-- Finite sums, and counting in two ways.
-- Assumes nothing.
use Rattle.std.specs.Prelude.{◌≡◌, refl, ◌≢◌, ℕ, zero, suc, ◌+◌, ◌*◌, ◌≤◌, ◌<◌}
use Rattle.std.proofs.Common.{sym, ap, ◌∙◌, arith}
use Rattle.std.proofs.Math.Decide.{ℕ_discrete}
use Rattle.theory.specs.Base.{upd, upd_same, upd_other}

unfoldable pub sum : (ℕ → ℕ) → ℕ → ℕ
sum f zero = 0
sum f (suc n) = sum f n + f n

pub sum_mono : (f g : ℕ → ℕ) (n : ℕ) → ((k : ℕ) → k < n → f k ≤ g k) → sum f n ≤ sum g n
unfolding sum
sum_mono f g zero h = omega arith
sum_mono f g (suc n) h = omega (arith, sum_mono f g n (λ k hk. h k (omega arith)), h n (omega arith))

pub sum_add : (f g : ℕ → ℕ) (n : ℕ) → sum (λ k. f k + g k) n ≡ sum f n + sum g n
unfolding sum
sum_add f g zero = refl
sum_add f g (suc n) = omega (arith, sum_add f g n)

pub sum_double : (f : ℕ → ℕ) (n : ℕ) → sum (λ k. 2 * f k) n ≡ 2 * sum f n
unfolding sum
sum_double f zero = refl
sum_double f (suc n) = omega (arith, sum_double f n)

pub sum_ones : (n : ℕ) → sum (λ k. 1) n ≡ n
unfolding sum
sum_ones zero = refl
sum_ones (suc n) = omega (arith, sum_ones n)

pub sum_zero : (f : ℕ → ℕ) (n : ℕ) → ((k : ℕ) → k < n → f k ≡ 0) → sum f n ≡ 0
unfolding sum
sum_zero f zero h = refl
sum_zero f (suc n) h = omega (arith, sum_zero f n (λ k hk. h k (omega arith)), h n (omega arith))

pub sum_term : (f : ℕ → ℕ) (n i : ℕ) → i < n → f i ≤ sum f n
unfolding sum
sum_term f zero i h = omega arith
sum_term f (suc n) i h = by (ℕ_discrete i n) (sum_term f n i)
  where
    by : Dec (i ≡ n) → (i < n → f i ≤ sum f n) → f i ≤ sum f n + f n
    by (yes k) ih = rw k (omega arith)
    by (no k) ih = omega (arith, ih (omega arith))

-- all terms but one are nothing
pub sum_single : (f : ℕ → ℕ) (n a b : ℕ) → ((k : ℕ) → k ≢ a → f k ≡ 0) → f a ≤ b → sum f n ≤ b
unfolding sum
sum_single f zero a b h hb = omega arith
sum_single f (suc n) a b h hb = by (ℕ_discrete n a) (sum_single f n a b h hb)
  where
    by : Dec (n ≡ a) → sum f n ≤ b → sum f n + f n ≤ b
    by (yes k) ih = let z : sum f n ≡ 0 = sum_zero f n (λ j hj. h j (λ y. let u : ⊥ = omega arith in u)) in rw k (omega (arith, rw k at z))
    by (no k) ih = omega (arith, h n k)

pub sum_swap : (F : ℕ → ℕ → ℕ) (m n : ℕ) → sum (λ a. sum (F a) n) m ≡ sum (λ b. sum (λ a. F a b) m) n
unfolding sum
sum_swap F zero n = sym (sum_zero (λ b. 0) n (λ k h. refl))
sum_swap F (suc m) n = rw (sum_swap F m n) (sym (sum_add (λ b. sum (λ a. F a b) m) (F m) n))

-- Σ n q ≤ Σ B i, if every (q, k) with k < n q is covered by some i, and each i covers at most B i of them
pub double_count : (p m : ℕ) (n : ℕ → ℕ) (E : ℕ → ℕ → ℕ → ℕ) (B : ℕ → ℕ)
    → ((q k : ℕ) → q < p → k < n q → 1 ≤ sum (E q k) m)
    → ((i : ℕ) → i < m → sum (λ q. sum (λ k. E q k i) (n q)) p ≤ B i) → sum n p ≤ sum B m
double_count p m n E B cover once = omega (arith, lower, regrouped, upper)
  where
    lower : sum n p ≤ sum (λ q. sum (λ k. sum (E q k) m) (n q)) p
    lower =
        sum_mono n (λ q. sum (λ k. sum (E q k) m) (n q)) p
        (λ q hq. omega (arith, sum_ones (n q), sum_mono (λ k. 1) (λ k. sum (E q k) m) (n q) (λ k hk. cover q k hq hk)))

    inner : (q : ℕ) → sum (λ k. sum (E q k) m) (n q) ≡ sum (λ i. sum (λ k. E q k i) (n q)) m
    inner q = sum_swap (E q) (n q) m

    regrouped : sum (λ q. sum (λ k. sum (E q k) m) (n q)) p ≡ sum (λ i. sum (λ q. sum (λ k. E q k i) (n q)) p) m
    regrouped = simp inner (sum_swap (λ q i. sum (λ k. E q k i) (n q)) p m)

    upper : sum (λ i. sum (λ q. sum (λ k. E q k i) (n q)) p) m ≤ sum B m
    upper = sum_mono (λ i. sum (λ q. sum (λ k. E q k i) (n q)) p) B m once

-- one term changes
pub sum_upd : (F f : ℕ → ℕ) (q v n : ℕ) → q < n → sum (λ r. F (upd f q v r)) n + F (f q) ≡ sum (λ r. F (f r)) n + F v
unfolding sum
sum_upd F f q v zero h = absurd (let y : ⊥ = omega arith in y)
sum_upd F f q v (suc n) h = by (ℕ_discrete n q) (sum_upd F f q v n)
  where
    before : (n : ℕ) → n ≤ q → sum (λ r. F (upd f q v r)) n ≡ sum (λ r. F (f r)) n
    before zero h = refl
    before (suc n) h = ap₂' (before n (omega arith)) (ap F (upd_other f q v n (λ z. let y : ⊥ = omega arith in y)))
      where
        ap₂' : sum (λ r. F (upd f q v r)) n ≡ sum (λ r. F (f r)) n → F (upd f q v n) ≡ F (f n)
            → sum (λ r. F (upd f q v r)) n + F (upd f q v n) ≡ sum (λ r. F (f r)) n + F (f n)
        ap₂' a b = omega arith

    by : Dec (n ≡ q) → (q < n → sum (λ r. F (upd f q v r)) n + F (f q) ≡ sum (λ r. F (f r)) n + F v)
        → (sum (λ r. F (upd f q v r)) n + F (upd f q v n)) + F (f q) ≡ (sum (λ r. F (f r)) n + F (f n)) + F v
    by (yes k) ih = omega (arith, before n (omega arith), ap F (ap (upd f q v) k ∙ upd_same f q v), ap (λ (x : ℕ). F (f x)) k)
    by (no k) ih = omega (arith, ih (omega arith), ap F (upd_other f q v n k))
