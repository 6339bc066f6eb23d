-- What the loop of `planners_text::cells::put_lines` keeps from turn to turn.
use Rattle.steps.specs.Memory.{words}
use Rattle.planners_text.proofs.LaidLaws.{Laying}
use Rattle.planners_text.proofs.cells.put_lines.Given as goal

abbrev pub invariant-loop-i : goal.invariant-loop-i
invariant-loop-i l = Laying l.s (words l.lent) l.start l.initial.out l.out l.at l.i
