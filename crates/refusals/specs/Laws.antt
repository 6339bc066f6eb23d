-- What an order of refusals shows, and how its outcome is taken on; and a refusal from its number.
-- Assumes nothing.
use Rattle.std.specs.Prelude.{◌<◌, ◌≡◌, refl, Bool, true, false, List, [], ◌∷◌, ltb, length}
use Rattle.std.proofs.Common.{sym, ◌∙◌, arith, ltb-true, ltb-false}
use Rattle.std.proofs.Math.ListN.{get_or-eq_default}
use Rattle.refusals.specs.declared.Refusal.{Refusal}
use Rattle.refusals.specs.Numbers.{table, refusal_of, row, number_of}
use Rattle.refusals.specs.Orders.{Rule, orders}
use Rattle.logic.specs.Pick.{pick}

-- No refusal of an order holds.
abbrev pub None : List Rule → Type 0
None [] = Unit {0}
None (r ∷ rs) = (r.when ≡ false) × None rs

pub past : {A : Type 0} (refuse : Refusal → A) (rules : List Rule) (work x : A) → ((r : Refusal) → refuse r ≡ x → ⊥) → orders refuse rules work ≡ x
    → None rules × (work ≡ x)
past refuse [] work x apart h = (tt, h)
past {A} refuse (r ∷ rs) work x apart h = by (λ y. past refuse rs work x apart y) r.when refl h
  where
    by : (orders refuse rs work ≡ x → None rs × (work ≡ x)) → (b : Bool) → r.when ≡ b → pick b (refuse r.gives) (orders refuse rs work) ≡ x
        → None (r ∷ rs) × (work ≡ x)
    by later true e y = absurd (apart r.gives y)
    by later false e y = let p = later y in ((e, p.0), p.1)

-- An order's outcome, taken on.
pub orders_then : {A B : Type 0} (f : A → B) (refuse : Refusal → A) (rules : List Rule) (work : A)
    → f (orders refuse rules work) ≡ orders (λ r. f (refuse r)) rules (f work)
orders_then f refuse [] work = refl
orders_then f refuse (r ∷ rs) work = by (orders_then f refuse rs work) r.when
  where
    by : f (orders refuse rs work) ≡ orders (λ x. f (refuse x)) rs (f work) → (b : Bool)
        → f (pick b (refuse r.gives) (orders refuse rs work)) ≡ pick b (f (refuse r.gives)) (orders (λ x. f (refuse x)) rs (f work))
    by later true = refl
    by later false = later

-- A refusal comes back from its number.
pub refusal_back : (r : Refusal) → refusal_of (number_of r) ≡ r
refusal_back r = (row r).there

-- Its number is below the table's length: one past it would be that of the refusal which any other number has.
pub number_below : (r : Refusal) → number_of r < length table
number_below r = by (ltb (number_of r) (length table)) refl
  where
    by : (b : Bool) → ltb (number_of r) (length table) ≡ b → number_of r < length table
    by true low = ltb-true (number_of r) (length table) low
    by false high =
        let past_end = get_or-eq_default table Refusal.NothingWritten {n = number_of r} (ltb-false (number_of r) (length table) high) in
        rw (sym (refusal_back r) ∙ past_end) (omega arith)
