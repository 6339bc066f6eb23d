-- `qhs::kinds_fit` meets its contract: what the check does not find alone.
use Rattle.qhs.proofs.FieldLaws.{kind_there}
use Rattle.qhs.proofs.ReadLaws.{known_none, known_next, unknown}
use Rattle.qhs.proofs.kinds_fit.Goals as goal

pub loop-k-init : goal.loop-k-init
loop-k-init c = known_none _ _

pub returns-then-byte_at-gt-LAST_KIND : goal.returns-then-byte_at-gt-LAST_KIND
returns-then-byte_at-gt-LAST_KIND c = search (unknown, kind_there)

pub loop-k-preserved : goal.loop-k-preserved
loop-k-preserved c = search (known_next, kind_there)
