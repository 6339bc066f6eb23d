-- `planners_text::cells::put_cell` meets its contract: what the check does not find alone.
use Rattle.planners_text.proofs.LaidLaws.{laid_line}
use Rattle.planners_text.proofs.cells.put_cell.Goals as goal

pub returns : goal.returns
returns c = search (laid_line)
