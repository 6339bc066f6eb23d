-- `planners_text::cells::put_lines` meets its contract: what the check does not find alone.
use Rattle.planners_text.proofs.LaidLaws.{laying_start, laying_room, laying_next}
use Rattle.planners_text.proofs.cells.put_lines.Goals as goal

pub loop-i-init : goal.loop-i-init
loop-i-init c = search (laying_start)

pub put_as-at-requires : goal.put_as-at-requires
put_as-at-requires c = search (laying_room)

pub loop-i-preserved : goal.loop-i-preserved
loop-i-preserved c = search (laying_next)
