-- What holds of calls one after another.
-- Assumes nothing.
use Rattle.std.specs.Prelude.{◌≡◌, refl, List, [], ◌∷◌, ◌++◌}
use Rattle.numbers.specs.declared.Terms.{Terms}
use Rattle.acts.specs.Worlds.{Machine, Call, World, world_after, after}

-- The calls of two lists: first the one, then the other.
pub after_both : {S A : Type 0} {z : Terms} (M : Machine S A) (w : World S) (cs ds : List (Call A z)) → after M w (cs ++ ds) ≡ after M (after M w cs) ds
unfolding after
after_both M w [] ds = refl
after_both M w (c ∷ cs) ds = after_both M (world_after M w c) cs ds
