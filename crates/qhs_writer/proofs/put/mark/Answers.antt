-- `qhs_writer::put::mark` meets its contract: what the check does not find alone.
use Rattle.qhs_writer.proofs.LaidLaws.{mark_laid}
use Rattle.qhs_writer.proofs.put.mark.Goals as goal

pub returns : goal.returns
returns c = search (mark_laid)
