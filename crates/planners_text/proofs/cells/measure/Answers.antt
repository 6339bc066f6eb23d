-- `planners_text::cells::measure` meets its contract: what the check does not find alone.
use Rattle.std.proofs.Common.{◌∙◌}
use Rattle.planners_text.proofs.SizeLaws.{measuring_start, measuring_outside, measuring_next, measuring_end}
use Rattle.planners_text.proofs.cells.measure.Goals as goal

pub loop-i-init : goal.loop-i-init
loop-i-init c = search (measuring_start)

pub returns-in_err-q : goal.returns-in_err-q
returns-in_err-q c = c.from_residual.ensures
    ∙ measuring_outside _ _ _ _ c.loop-i.invariant c.loop-i-test.true _ c.reading_at.ensures c.in_err-q.was

pub loop-i-preserved : goal.loop-i-preserved
loop-i-preserved c = measuring_next _ _ _ _ c.loop-i.invariant c.loop-i-test.true _ c.reading_at.ensures _ c.in_ok-q.was _ c.length_as-total.ensures

pub returns : goal.returns
returns c = search (measuring_end)
