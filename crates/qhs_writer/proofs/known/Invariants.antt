-- What the loop of `qhs_writer::known` keeps from turn to turn.
use Rattle.qhs_writer.proofs.WriteLaws.{Known}
use Rattle.qhs_writer.proofs.known.Given as goal

abbrev pub invariant-loop-k : goal.invariant-loop-k
invariant-loop-k l = Known l.kinds l.k
