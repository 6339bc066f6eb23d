-- The first lanes of a state at rest, looked at as a list.
-- Assumes nothing.
use mathlib.Core.Path.{◌≡◌, refl, ◌∙◌}
use Prim.Native.Nat.{ℕ, zero, suc, ◌≤◌}
use Rattle.std.specs.Prelude.{length, take}
use Rattle.std.specs.List.{list_all}
use Rattle.std.proofs.Common.{add-one}
use Rattle.std.proofs.lemmas.List.Folds.{list_all_more}
use native.Mathlib.Omega.{arith}
use Rattle.logic.specs.Below.{below}
use Rattle.lanes.specs.declared.State.{State}
use Rattle.lanes.specs.declared.Lane.{Lane}
use Rattle.lanes.specs.Ranges.{rest, lane_of, idle}

pub calm_first : (s : State) (i : ℕ) → i ≤ length s.lanes
    → list_all (λ (l : Lane). idle l.op) (take i s.lanes) ≡ below i (λ (q : ℕ). idle (lane_of s q).op)
unfolding below
calm_first s zero h = refl
calm_first s (suc i) h =
    rw (← add-one i)
    (list_all_more (λ (l : Lane). idle l.op) s.lanes i rest (omega arith)
    ∙ rw (calm_first s i (omega arith)) refl)
