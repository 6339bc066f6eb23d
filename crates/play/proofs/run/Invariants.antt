-- What the loop of `play::run` keeps from turn to turn, and what falls.
use Prim.Native.Nat.{◌-◌}
use Rattle.steps.specs.Memory.{words_mut, SameLent}
use Rattle.acts.specs.Worlds.{world}
use Rattle.play.proofs.RunLaws.{Going}
use Rattle.play.proofs.run.Given as goal

abbrev pub invariant-loop-p : goal.invariant-loop-p
invariant-loop-p l =
    Going l.bytes l.n (world l.initial.p.state (words_mut l.initial.lent))
    l.initial.out l.initial.at (world l.p.state (words_mut l.lent)) l.out l.at l.p.next
    × SameLent l.initial.lent l.lent

abbrev pub decreases-loop-p : goal.decreases-loop-p
decreases-loop-p l = l.n - l.p.next
