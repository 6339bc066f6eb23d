-- `qhs::read` meets its contract: what the check does not find alone.
use Rattle.qhs.proofs.ReadLaws.{read_is}
use Rattle.qhs.proofs.read.Goals as goal

pub returns : goal.returns
returns c = search (read_is)
