-- What the loop of `qhs::kinds_fit` keeps from turn to turn.
use Rattle.qhs.proofs.ReadLaws.{Known}
use Rattle.qhs.proofs.kinds_fit.Given as goal

abbrev pub invariant-loop-k : goal.invariant-loop-k
invariant-loop-k l = Known l.l l.bytes l.k
