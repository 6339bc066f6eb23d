-- `byte_lists::line::Line::word` meets its contract: what the check does not find alone.
use Rattle.byte_lists.proofs.LineLaws.{word_start, word_next}
use Rattle.byte_lists.proofs.line.Line.word.Goals as goal

pub loop-b-init : goal.loop-b-init
loop-b-init c = search (word_start)

pub loop-b-preserved : goal.loop-b-preserved
loop-b-preserved c = search (word_next)
