-- Decimal text: how long it is, and that reading it back gives the number.
-- Assumes nothing.
use Rattle.std.specs.Prelude.{ℕ, zero, suc, ◌+◌, ◌-◌, ◌*◌, ◌/◌, ◌%◌, ◌^◌, ◌<◌, ◌≤◌, ◌≡◌, refl, Bool, true, false, List, [], ◌∷◌, ◌++◌, ltb, length}
use Rattle.std.proofs.Common.{arith, length-append, ltb-true, ltb-false, lt-ltb, le-ltb}
use Rattle.std.proofs.Math.Nat.{pow-succ', pow-le-pow_right}
use Rattle.byte_lists.specs.Bytes.{digit, decimal_in, decimal}

-- the digits allowed make no difference, where they are enough
enough : (j k n : ℕ) → n < j → n < k → decimal_in j n ≡ decimal_in k n
unfolding decimal_in
enough zero k n h l = absurd (let y : ⊥ = omega arith in y)
enough (suc j) zero n h l = absurd (let y : ⊥ = omega arith in y)
enough (suc j) (suc k) n h l = by (ltb n 10) refl (λ a b. enough j k (n / 10) a b)
  where
    by : (b : Bool) → ltb n 10 ≡ b → (n / 10 < j → n / 10 < k → decimal_in j (n / 10) ≡ decimal_in k (n / 10))
        → decimal_in (suc j) n ≡ decimal_in (suc k) n
    by true e next = simp e
    by false e next =
        let t : 10 ≤ n = ltb-false n 10 e in
        simp (e, next (omega (arith, h)) (omega (arith, l)))

pub decimal_low : (n : ℕ) → n < 10 → decimal n ≡ digit n ∷ []
unfolding decimal decimal_in
decimal_low n h = simp (lt-ltb _ _ h)

pub decimal_step : (n : ℕ) → 10 ≤ n → decimal n ≡ decimal (n / 10) ++ (digit (n % 10) ∷ [])
unfolding decimal decimal_in
decimal_step n h = simp (le-ltb _ _ h, enough n (suc (n / 10)) (n / 10) (omega arith) (omega arith))

-- From ten on a number has one digit more than its tenth.
pub step_length : (n : ℕ) → 10 ≤ n → length (decimal n) ≡ length (decimal (n / 10)) + 1
step_length n h = rw (decimal_step n h) (length-append (decimal (n / 10)) (digit (n % 10) ∷ []))

-- A number below 10 ^ (k + 1) has at most k + 1 digits,
pub decimal_short : (k n : ℕ) → n < 10 ^ suc k → length (decimal n) ≤ suc k
decimal_short zero n h = rw (decimal_low n (omega arith)) (omega arith)
decimal_short (suc k) n h = by (ltb n 10) refl (λ a. decimal_short k (n / 10) a)
  where
    by : (b : Bool) → ltb n 10 ≡ b → (n / 10 < 10 ^ suc k → length (decimal (n / 10)) ≤ suc k) → length (decimal n) ≤ suc (suc k)
    by true e next = rw (decimal_low n (ltb-true n 10 e)) (omega arith)
    by false e next =
        let t : 10 ≤ n = ltb-false n 10 e in
        let ten = pow-succ' 10 (suc k) in
        omega (arith, step_length n t, next (omega (arith, h)))

-- and one of 10 ^ k or more has more than k: none begins with a zero but 0 itself.
pub decimal_long : (k n : ℕ) → 10 ^ k ≤ n → k < length (decimal n)
decimal_long zero n h = by (ltb n 10) refl
  where
    by : (b : Bool) → ltb n 10 ≡ b → 0 < length (decimal n)
    by true e = rw (decimal_low n (ltb-true n 10 e)) (omega arith)
    by false e = omega (arith, step_length n (ltb-false n 10 e))
decimal_long (suc k) n h =
    let ten = pow-succ' 10 k in
    let pos = pow-le-pow_right {n = 10} (omega arith) {i = 0} {j = k} (omega arith) in
    let t : 10 ≤ n = omega arith in
    omega (arith, step_length n t, decimal_long k (n / 10) (omega arith))

-- Reading digits: each makes what was read before it tenfold.
abbrev pub read_onto : ℕ → List ℕ → ℕ
read_onto v [] = v
read_onto v (b ∷ bytes) = read_onto (v * 10 + (b - 48)) bytes

onto_append : (v : ℕ) (xs ys : List ℕ) → read_onto v (xs ++ ys) ≡ read_onto (read_onto v xs) ys
onto_append v [] ys = refl
onto_append v (b ∷ xs) ys = onto_append (v * 10 + (b - 48)) xs ys

read_in_lem : (k n : ℕ) → n < k → read_onto 0 (decimal n) ≡ n
read_in_lem zero n h = absurd (let y : ⊥ = omega arith in y)
read_in_lem (suc k) n h = by (ltb n 10) refl (λ a. read_in_lem k (n / 10) a)
  where
    by : (b : Bool) → ltb n 10 ≡ b → (n / 10 < k → read_onto 0 (decimal (n / 10)) ≡ n / 10) → read_onto 0 (decimal n) ≡ n
    by true e next = rw (decimal_low n (ltb-true n 10 e)) (omega arith)
    by false e next =
        let t : 10 ≤ n = ltb-false n 10 e in
        let i : read_onto 0 (decimal (n / 10)) ≡ n / 10 = next (omega (arith, h)) in
        rw (decimal_step n t, onto_append 0 (decimal (n / 10)) (digit (n % 10) ∷ []), i) (omega arith)

-- A number's decimal text read back is the number.
pub decimal_read : (n : ℕ) → read_onto 0 (decimal n) ≡ n
decimal_read n = read_in_lem (suc n) n (omega arith)
