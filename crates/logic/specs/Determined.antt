-- When a promise determines what it is made of.
-- Assumes nothing.
use Rattle.std.specs.Prelude.{◌≡◌}
use Rattle.std.proofs.Common.{sym, ap, ◌∙◌}

-- Any two outcomes that meet the promise coincide.
abbrev pub Determined : {A : Type 0} → (A → Type 0) → Type 0
Determined {A} Meets = (x y : A) → Meets x → Meets y → x ≡ y

-- An equation determines,
pub by_equation : {A : Type 0} (d : A) → Determined (λ (x : A). x ≡ d)
by_equation d x y e f = e ∙ sym f

-- and an equation of all that leaves a call determines each part of it.
pub by_part : {A B : Type 0} (part : A → B) (d x y : A) → x ≡ d → y ≡ d → part x ≡ part y
by_part part d x y e f = ap part (by_equation d x y e f)
