-- What the loop of `qhs_writer::put::number` keeps from turn to turn, and what falls.
use Rattle.qhs_writer.proofs.LaidLaws.{Numbered}
use Rattle.qhs_writer.proofs.put.number.Given as goal

abbrev pub invariant-loop-i : goal.invariant-loop-i
invariant-loop-i l = Numbered l.initial.out l.at l.width l.n l.out l.rest l.i
