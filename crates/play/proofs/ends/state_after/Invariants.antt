-- What the loop of `play::ends::state_after` keeps from turn to turn, and what falls.
use Prim.Native.Nat.{◌-◌}
use Rattle.steps.specs.Memory.{words_mut, SameLent}
use Rattle.acts.specs.Worlds.{world}
use Rattle.play.proofs.EndLaws.{Ending}
use Rattle.play.proofs.ends.state_after.Given as goal

abbrev pub invariant-loop-p : goal.invariant-loop-p
invariant-loop-p l =
    Ending l.bytes l.n (world l.initial.p.state (words_mut l.initial.lent))
    (world l.p.state (words_mut l.lent)) l.p.next
    × SameLent l.initial.lent l.lent

abbrev pub decreases-loop-p : goal.decreases-loop-p
decreases-loop-p l = l.n - l.p.next
