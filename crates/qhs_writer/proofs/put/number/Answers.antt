-- `qhs_writer::put::number` meets its contract: what the check does not find alone.
use Rattle.qhs_writer.proofs.LaidLaws.{numbered_none, numbered_next}
use Rattle.qhs_writer.proofs.put.number.Goals as goal

pub loop-i-init : goal.loop-i-init
loop-i-init c = search (numbered_none)

pub loop-i-preserved : goal.loop-i-preserved
loop-i-preserved c = search (numbered_next)
