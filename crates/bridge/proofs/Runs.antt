-- What holds of every good run holds after any calls on an opened grid: the one induction over calls.
-- Assumes nothing.
use Rattle.std.specs.Prelude.{◌≡◌, refl, List, [], ◌∷◌}
use Rattle.std.proofs.Common.{sym, ◌∙◌, subst}
use Rattle.steps.specs.Memory.{Memory}
use Rattle.acts.specs.Calls.{Opening}
use Rattle.acts.specs.Calls as Grid
use Rattle.acts.specs.Lent.{opening_open, admitted}
use Rattle.acts.specs.Worlds.{Machine, World, world, grid, Call, begin, step, misfit, after, Accepted, opened_world}
use Rattle.demands.specs.Types.{Terms, State, Ask}
use Rattle.demands.specs.Kinds.{Kind, writing}
use Rattle.demands.specs.Book.{Run, next, run, start}
use Rattle.bridge.specs.Along.{kept}
use Rattle.bridge.proofs.Opens.{good_fresh}
use Rattle.bridge.proofs.Views.{GoodRun, LaterRun, good_next}

-- The world of a run is the world after its calls.
pub run_world : {S A : Type 0} {z : Terms} (K : Kind S A) (M : Machine S A) (r : Run S) (cs : List (Call A z)) → (run K M r cs).world ≡ after M r.world cs
unfolding run after
run_world K M r [] = refl
run_world K M r (c ∷ cs) = run_world K M (next K M r c) cs

-- What was given to open stays.
pub same_terms : {z : Terms} (r : Run State) (c : Call Ask z) → (next writing grid r c).world.state.terms ≡ r.world.state.terms
same_terms r (begin q a) = refl
same_terms r (step q) = refl
same_terms r (misfit q lent h) = refl

-- A good run of a grid opened with these terms.
pub record GoodWith (z : Terms) (r : Run State) : Type 0 where
  pub good : GoodRun r
  pub terms : r.world.state.terms ≡ z

module _ {z : Terms} where
  pub later : (r : Run State) (H : GoodWith z r) (c : Call Ask z) → LaterRun {r = r} H.good (next writing grid r c)
  later r H = subst (λ (z : Terms). (c : Call Ask z) → LaterRun {r = r} H.good (next writing grid r c)) H.terms (good_next r H.good)

  abbrev pub keeps : (r : Run State) → GoodWith z r → (c : Call Ask z) → GoodWith z (next writing grid r c)
  keeps r H c = record { good = (later r H c).good; terms = same_terms r c ∙ H.terms }

-- What holds of the world that open leaves, all old bytes kept, holds of an opened grid.
module _ (z : Terms) (mem : Memory) (ok : Accepted grid z mem) where
  pub opened_as_lem : (P : World State → Type 0) → P (world (Grid.fresh z) mem) → P (opened_world grid z mem)
  opened_as_lem P = subst (λ (o : Opening). P (world (Grid.opened_as z o).state mem)) (sym (opening_open z mem ok))

  pub fresh_good : GoodWith z (start (world (Grid.fresh z) mem))
  fresh_good = record { good = good_fresh z mem (admitted z mem (opening_open z mem ok)); terms = refl }

pub after_any_calls : (z : Terms) (P : Run State → Type 0) → ((r : Run State) → GoodWith z r → P r) → (mem : Memory) → Accepted grid z mem
    → (calls : List (Call Ask z)) → P (run writing grid (start (opened_world grid z mem)) calls)
after_any_calls z P holds mem ok calls =
    opened_as_lem z mem ok (λ (w : World State). P (run writing grid (start w) calls))
    (holds _ (kept writing grid (GoodWith z) keeps calls _ (fresh_good z mem ok)))
