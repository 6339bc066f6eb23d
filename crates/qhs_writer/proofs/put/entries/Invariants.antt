-- What the loop of `qhs_writer::put::entries` keeps from turn to turn, and what falls.
use Rattle.qhs_writer.specs.Writer.{fields}
use Rattle.qhs_writer.proofs.LaidLaws.{Laying}
use Rattle.qhs_writer.proofs.put.entries.Given as goal

abbrev pub invariant-loop-k : goal.invariant-loop-k
invariant-loop-k l = Laying (fields l.kinds l.processes l.cells l.values) l.n l.start l.initial.out l.out l.at l.k
