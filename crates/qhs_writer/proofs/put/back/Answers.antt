-- `qhs_writer::put::back` meets its contract: what the check does not find alone.
use Rattle.qhs_writer.proofs.LaidLaws.{back_laid}
use Rattle.qhs_writer.proofs.put.back.Goals as goal

pub returns : goal.returns
returns c = search (back_laid)
