-- `byte_lists::line::Line::number` meets its contract: what the check does not find alone.
use Rattle.byte_lists.proofs.LineLaws.{left_next, left_last}
use Rattle.byte_lists.proofs.line.Line.number.Goals as goal

pub returns-then-rest-lt10 : goal.returns-then-rest-lt10
returns-then-rest-lt10 c = search (left_last)

pub loop-i-preserved : goal.loop-i-preserved
loop-i-preserved c = search (left_next)
