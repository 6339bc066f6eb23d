-- `qhs::record_at` meets its contract: what the check does not find alone.
use Rattle.qhs.specs.Qhs.{version1}
use Rattle.qhs.proofs.FieldLaws.{record_there}
use Rattle.qhs.proofs.record_at.Goals as goal

pub returns : goal.returns
returns c = search (record_there version1)
