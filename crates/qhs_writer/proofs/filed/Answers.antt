-- `qhs_writer::filed` meets its contract: what the check does not find alone.
use Rattle.qhs_writer.proofs.WriteLaws.{no_room, written}
use Rattle.qhs_writer.proofs.filed.Goals as goal

pub returns-then-out-n : goal.returns-then-out-n
returns-then-out-n c = search (no_room)

pub returns : goal.returns
returns c = search (written)
