-- Small things that every module uses: a choice by a decision, a function changed at one place.
-- Assumes nothing.
use Rattle.std.specs.Prelude.{◌≡◌, refl, ◌≢◌, ℕ}
use Rattle.std.proofs.Math.Decide.{ℕ_discrete}

-- `pick d a b`: a if the decision is yes, b if it is no
abbrev pub pick {ℓ κ} : {P : Type κ} {A : Type ℓ} → Dec P → A → A → A
pick (yes h) a b = a
pick (no h) a b = b

-- the function f, but v at i
unfoldable pub upd {ℓ} : {A : Type ℓ} → (ℕ → A) → ℕ → A → ℕ → A
upd f i v j = pick (ℕ_discrete j i) v (f j)

pub upd_same {ℓ} : {A : Type ℓ} (f : ℕ → A) (i : ℕ) (v : A) → upd f i v i ≡ v
unfolding upd
upd_same f i v = go (ℕ_discrete i i)
  where
    go : (d : Dec (i ≡ i)) → pick d v (f i) ≡ v
    go (yes h) = refl
    go (no h) = absurd (h refl)

pub upd_other {ℓ} : {A : Type ℓ} (f : ℕ → A) (i : ℕ) (v : A) (j : ℕ) → j ≢ i → upd f i v j ≡ f j
unfolding upd
upd_other f i v j ne = go (ℕ_discrete j i)
  where
    go : (d : Dec (j ≡ i)) → pick d v (f j) ≡ f j
    go (yes h) = absurd (ne h)
    go (no h) = refl
