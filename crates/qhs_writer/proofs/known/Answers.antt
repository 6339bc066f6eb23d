-- `qhs_writer::known` meets its contract: what the check does not find alone.
use Rattle.qhs_writer.proofs.WriteLaws.{known_none, known_next, known_not}
use Rattle.qhs_writer.proofs.known.Goals as goal

pub loop-k-init : goal.loop-k-init
loop-k-init c = search (known_none)

pub returns-then-kinds-k-gt-LAST_KIND : goal.returns-then-kinds-k-gt-LAST_KIND
returns-then-kinds-k-gt-LAST_KIND c = search (known_not)

pub loop-k-preserved : goal.loop-k-preserved
loop-k-preserved c = search (known_next)
