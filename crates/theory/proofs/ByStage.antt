-- A step of any stage keeps the invariant.
-- Assumes nothing.
use Rattle.std.specs.Prelude.{◌≡◌, ℕ}
use Rattle.theory.specs.Array.{Op}
use Rattle.theory.specs.Machine.{Grid, Lawful, Link, Marking, Stage, marking, busy}
use Rattle.theory.specs.World.{World}
use Rattle.theory.specs.Inv.{Inv}
use Rattle.theory.specs.Steps.{KeptAt}
use Rattle.theory.proofs.Check.{check_link_lem, check_marks_lem, check_directory_lem, check_mark_lem, fetches}
use Rattle.theory.specs.Mark.{draws, enters, tombstones, marks_place, forces, takes_back}
use Rattle.theory.specs.Store.{stores}
use Rattle.theory.specs.WriteSwap.{swaps}

module _ {G : Grid} (A : Lawful G) {old_link : ℕ → Link} {W : World} (I : Inv G old_link W) (q : ℕ) (o : Op) (i : ℕ) where
  by_marking : (k : Marking) → W.w.lane q ≡ busy o i (marking k) → KeptAt G old_link W q o i (marking k)
  by_marking (Marking.draw s S n) e = draws I q o i s S n e
  by_marking (Marking.enter s S n) e = enters I q o i s S n e
  by_marking (Marking.tombstone S n) e = tombstones I q o i A S n e
  by_marking (Marking.mark S n) e = marks_place I q o i A S n e
  by_marking (Marking.force S n) e = forces I q o i S n e
  by_marking (Marking.swap S n) e = swaps I q o i S n e
  by_marking (Marking.take_back n) e = takes_back I q o i n e

  pub by_stage : (g : Stage) → W.w.lane q ≡ busy o i g → KeptAt G old_link W q o i g
  by_stage Stage.store e = stores I q o i e
  by_stage Stage.check_link e = check_link_lem I q o i e
  by_stage (Stage.check_marks S) e = check_marks_lem I q o i S e
  by_stage (Stage.check_directory S) e = check_directory_lem I q o i S e
  by_stage (Stage.check_mark S) e = check_mark_lem I q o i S e
  by_stage Stage.fetch e = fetches I q o i e
  by_stage (marking k) e = by_marking k e
