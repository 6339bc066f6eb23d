-- What follows a failed check, a directory entry or a tombstone is one of three: what holds of all three.
-- Assumes nothing.
use Rattle.std.specs.Prelude.{◌≡◌, refl, ◌≢◌, Bool, true, false, ℕ, suc, ◌≤◌, ◌<◌}
use Rattle.std.proofs.Common.{sym, ap, ◌∙◌, arith}
use Rattle.std.proofs.Math.Decide.{dec_lt}
use Rattle.theory.specs.Base.{pick}
use Rattle.theory.specs.Machine.{Grid, Link, mk, Seen, Marking, Mem, same_link, use_place, plan}
use Rattle.theory.specs.Standing.{standing_in, settled_by, front_by}
use Rattle.theory.specs.Inv.{Clear, Making, MarkingOk}

module _ (P : Marking → Type 0) (s : Bool) (q : ℕ) (S : Seen) (n : ℕ) where
  pub use_cases : Clear s q S n → (S.at ≡ mk q n → P (Marking.tombstone S n)) → (S.at ≢ mk q n → P (Marking.mark S n)) → P (use_place s q S n)
  use_cases = by s
    where
      tests : (d : Dec (S.at ≡ mk q n)) → (S.at ≡ mk q n → P (Marking.tombstone S n)) → (S.at ≢ mk q n → P (Marking.mark S n))
          → P (pick d (Marking.tombstone S n) (Marking.mark S n))
      tests (yes y) t k = t y
      tests (no y) t k = k y

      by : (s : Bool) → Clear s q S n → (S.at ≡ mk q n → P (Marking.tombstone S n)) → (S.at ≢ mk q n → P (Marking.mark S n)) → P (use_place s q S n)
      by true c t k = k c
      by false c t k = tests (same_link S.at (mk q n)) t k

  pub plan_cases : (G : Grid) (M : Mem) → Clear s q S n
      → (G.shape.seg n < M.drawn q → S.at ≡ mk q n → P (Marking.tombstone S n))
      → (G.shape.seg n < M.drawn q → S.at ≢ mk q n → P (Marking.mark S n))
      → (M.drawn q ≤ G.shape.seg n → P (Marking.draw s S n)) → P (plan G s M q S n)
  plan_cases G M c t k d = by (dec_lt (G.shape.seg n) (M.drawn q))
    where
      by : (z : Dec (G.shape.seg n < M.drawn q)) → P (pick z (use_place s q S n) (Marking.draw s S n))
      by (yes h) = use_cases c (t h) (k h)
      by (no h) = d (omega arith)

-- each of the three leaves the marks in force alone, and has place n in front of it
pub record Stands (n c : ℕ) (k : Marking) : Type 0 where
  pub settled : settled_by (standing_in k) c ≡ c
  pub front : front_by (standing_in k) c ≡ n

pub use_stands : (s : Bool) (q : ℕ) (S : Seen) (n c : ℕ) → Clear s q S n → Stands n c (use_place s q S n)
use_stands s q S n c h =
    use_cases (λ k. Stands n c k) s q S n h (λ k. record { settled = refl; front = refl }) (λ k. record { settled = refl; front = refl })

pub plan_stands : (G : Grid) (s : Bool) (M : Mem) (q : ℕ) (S : Seen) (n c : ℕ) → Clear s q S n → Stands n c (plan G s M q S n)
plan_stands G s M q S n c h = plan_cases (λ k. Stands n c k) s q S n G M h
    (λ y k. record { settled = refl; front = refl }) (λ y k. record { settled = refl; front = refl }) (λ y. record { settled = refl; front = refl })

module _ (G : Grid) (old_link : ℕ → Link) (M : Mem) (used : ℕ → ℕ) (s : Bool) (q i : ℕ) (S : Seen) (n : ℕ) (h : Making G old_link M used q i S n)
    (c : Clear s q S n) where
  pub use_ok : MarkingOk G old_link M used q i (use_place s q S n)
  use_ok = use_cases (λ k. MarkingOk G old_link M used q i k) s q S n c (λ k. (h, k)) (λ k. (h, k))

  pub plan_ok : (M₁ : Mem) → MarkingOk G old_link M used q i (plan G s M₁ q S n)
  plan_ok M₁ = plan_cases (λ k. MarkingOk G old_link M used q i k) s q S n G M₁ c (λ y k. (h, k)) (λ y k. (h, k)) (λ y. (h, c))

-- the place after a tombstone's is not the remembered link's
pub past_tombstone : (q : ℕ) (S : Seen) (n : ℕ) → S.at ≡ mk q n → S.at ≢ mk q (suc n)
past_tombstone q S n h u = let z : n ≡ suc n = ap (λ (y : Link). y.place) (sym h ∙ u) in let y : ⊥ = omega arith in y
