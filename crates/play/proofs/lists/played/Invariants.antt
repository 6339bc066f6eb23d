-- What the loop of `play::lists::played` keeps from turn to turn.
use Rattle.play.proofs.ListLaws.{Filling}
use Rattle.play.proofs.lists.played.Given as goal

abbrev pub invariant-loop-i : goal.invariant-loop-i
invariant-loop-i l = Filling l.bytes l.first l.c l.i l.kinds l.processes l.cells l.values
