-- What the loop of `byte_lists::line::Line::number` keeps from turn to turn.
use Rattle.byte_lists.proofs.LineLaws.{Left}
use Rattle.byte_lists.proofs.line.Line.number.Given as goal

abbrev pub invariant-loop-i : goal.invariant-loop-i
invariant-loop-i l = Left l.n l.rest l.i l.digits
