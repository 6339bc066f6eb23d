-- What the loop of `byte_lists::line::Line::word` keeps from turn to turn.
use Rattle.std.proofs.Common.{take}
use Rattle.byte_lists.specs.Lines.{Grown}
use Rattle.byte_lists.proofs.line.Line.word.Given as goal

abbrev pub invariant-loop-b : goal.invariant-loop-b
invariant-loop-b l = Grown l.initial.self l.self (take l.b-index l.w)
