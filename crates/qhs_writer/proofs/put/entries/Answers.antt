-- `qhs_writer::put::entries` meets its contract: what the check does not find alone.
use Rattle.qhs_writer.proofs.LaidLaws.{laying_none, laying_next}
use Rattle.qhs_writer.proofs.put.entries.Goals as goal

pub loop-k-init : goal.loop-k-init
loop-k-init c = search (laying_none)

pub loop-k-preserved : goal.loop-k-preserved
loop-k-preserved c = search (laying_next)
