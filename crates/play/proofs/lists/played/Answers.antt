-- `play::lists::played` meets its contract: what the check does not find alone.
use native.Mathlib.Omega.{arith}
use Rattle.play.proofs.ListLaws.{played_is}
use Rattle.play.proofs.lists.played.Goals as goal

pub returns-clause-done : goal.returns-clause-done
returns-clause-done c = played_is _ _ _ _ _ _ _ _ _ _ _ _ _ _ c.requires (omega arith) c.loop-i.invariant c.run.ensures.done c.run.ensures.told
