-- `planners_text::cells::put_as` meets its contract: what the check does not find alone.
use Rattle.planners_text.proofs.LaidLaws.{as_outside, as_none}
use Rattle.planners_text.proofs.cells.put_as.Goals as goal

pub returns-else-q : goal.returns-else-q
returns-else-q c = search (as_none)

pub returns-in-None : goal.returns-in-None
returns-in-None c = search (as_outside)
