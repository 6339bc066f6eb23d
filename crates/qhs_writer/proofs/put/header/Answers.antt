-- `qhs_writer::put::header` meets its contract: what the check does not find alone.
use Rattle.qhs_writer.proofs.LaidLaws.{header_laid}
use Rattle.qhs_writer.proofs.put.header.Goals as goal

pub returns : goal.returns
returns c = search (header_laid)
