-- What the loop of `planners_text::cells::measure` keeps from turn to turn.
use Rattle.steps.specs.Memory.{words}
use Rattle.planners_text.proofs.SizeLaws.{Measuring}
use Rattle.planners_text.proofs.cells.measure.Given as goal

abbrev pub invariant-loop-i : goal.invariant-loop-i
invariant-loop-i l = Measuring l.s (words l.lent) l.total l.i
