-- The first part of an array that holds one word throughout, as a file's grid or records are lent it: its length and its words.
-- Assumes nothing.
use Rattle.std.specs.Prelude.{ℕ, zero, suc, ◌≤◌, ◌≡◌, refl, List, ◌∷◌, length, take, replicate}
use Rattle.std.proofs.Common.{sym, ap, ◌∙◌, arith}
use Rattle.std.proofs.lemmas.List.{length-replicate}

pub part_is : (k n v : ℕ) → k ≤ n → take k (replicate n v) ≡ replicate k v
part_is zero n v h = refl
part_is (suc k) zero v h = absurd (let y : ⊥ = omega arith in y)
part_is (suc k) (suc n) v h = ap (λ (l : List ℕ). v ∷ l) (part_is k n v (omega arith))

pub part_length : (k n v : ℕ) → k ≤ n → k ≡ length (take k (replicate n v))
part_length k n v h = sym (ap length (part_is k n v h) ∙ length-replicate k v)
