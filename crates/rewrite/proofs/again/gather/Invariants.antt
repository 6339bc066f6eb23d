-- What the loop of `rewrite::again::gather` keeps from turn to turn.
use Rattle.rewrite.proofs.AgainLaws.{Gathered}
use Rattle.rewrite.proofs.again.gather.Given as goal

abbrev pub invariant-loop-k : goal.invariant-loop-k
invariant-loop-k l = Gathered l.bytes l.n l.kinds l.processes l.cells l.values l.k
