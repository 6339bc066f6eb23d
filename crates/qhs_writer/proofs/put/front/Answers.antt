-- `qhs_writer::put::front` meets its contract: what the check does not find alone.
use Rattle.qhs_writer.proofs.LaidLaws.{front_laid}
use Rattle.qhs_writer.proofs.put.front.Goals as goal

pub returns : goal.returns
returns c = search (front_laid)
