-- `qhs_writer::put::entry` meets its contract: what the check does not find alone.
use Rattle.qhs_writer.proofs.LaidLaws.{entry_laid}
use Rattle.qhs_writer.proofs.put.entry.Goals as goal

pub returns : goal.returns
returns c = search (entry_laid)
