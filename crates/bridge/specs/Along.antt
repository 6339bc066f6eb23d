-- By an invariant of a machine of any kind: what every call keeps holds after any calls, and where every call only adds to
-- the order, the order only grows.
-- Assumes nothing.
use Rattle.std.specs.Prelude.{ℕ}
use mathlib.Core.List.{List, [], ◌∷◌, ◌++◌}
use Rattle.acts.specs.Worlds.{Machine, Call}
use Rattle.theory.specs.Interface.{OrderOf, Grown, grown_same, grown_on}
use Rattle.demands.specs.Types.{Terms}
use Rattle.demands.specs.Kinds.{Kind}
use Rattle.demands.specs.Book.{Run, next, run}
use Rattle.demands.specs.Growing.{Placed, Growing}

module _ {S A : Type 0} (K : Kind S A) (M : Machine S A) {z : Terms} (Good : Run S → Type 0) where
  module _ (keeps : (r : Run S) → Good r → (c : Call A z) → Good (next K M r c)) where
    unfoldable pub kept : (cs : List (Call A z)) (r : Run S) → Good r → Good (run K M r cs)
    unfolding run
    kept [] r H = H
    kept (c ∷ cs) r H = kept cs (next K M r c) (keeps r H c)

  -- a good run has an order, and a call leaves a good run whose order has grown
  module _ (f : ℕ → ℕ) (order : (r : Run S) → Good r → OrderOf f r.book.ended (Placed r.book))
      (keeps : (r : Run S) → Good r → (c : Call A z) → Good (next K M r c))
      (adds : (r : Run S) (H : Good r) (c : Call A z) → Grown (order r H).order (order (next K M r c) (keeps r H c)).order) where
    abbrev after : (cs : List (Call A z)) (r : Run S) (H : Good r) → OrderOf f (run K M r cs).book.ended (Placed (run K M r cs).book)
    after cs r H = order (run K M r cs) (kept keeps cs r H)

    more_grown : (more : List (Call A z)) (r : Run S) (H : Good r) → Grown (order r H).order (after more r H).order
    unfolding kept run
    more_grown [] r H = grown_same (order r H).order
    more_grown (c ∷ more) r H = grown_on (adds r H c) (more_grown more (next K M r c) (keeps r H c))

    calls_grown : (calls more : List (Call A z)) (r : Run S) (H : Good r) → Grown (after calls r H).order (after (calls ++ more) r H).order
    unfolding kept run
    calls_grown [] more r H = more_grown more r H
    calls_grown (c ∷ calls) more r H = calls_grown calls more (next K M r c) (keeps r H c)

    pub growing : (r : Run S) → Good r → Growing f (λ (calls : List (Call A z)). (run K M r calls).book)
    growing r H = record { orders = λ calls. after calls r H; grows = λ calls more. calls_grown calls more r H }
