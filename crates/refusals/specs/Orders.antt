-- How an order of refusals is read: the first whose condition holds is given.
-- Assumes nothing.
use Rattle.std.specs.Prelude.{Bool, List, [], ◌∷◌}
use Rattle.logic.specs.Pick.{pick}
use Rattle.refusals.specs.declared.Refusal.{Refusal}

-- a refusal, and when it is given
pub record Rule : Type 0 where
  pub when : Bool
  pub gives : Refusal

infixl 80 ◌gives◌
abbrev pub ◌gives◌ : Bool → Refusal → Rule
b gives r = record { when = b; gives = r }

-- the first refusal that holds; else what the call does
abbrev pub orders : {A : Type 0} → (Refusal → A) → List Rule → A → A
orders refuse [] work = work
orders refuse (r ∷ rs) work = pick r.when (refuse r.gives) (orders refuse rs work)
