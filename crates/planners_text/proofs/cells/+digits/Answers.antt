-- `planners_text::cells::digits` meets its contract: what the check does not find alone.
use Rattle.planners_text.proofs.SizeLaws.{digits_low, digits_more}
use Rattle.planners_text.proofs.cells.+digits.Goals as goal

pub returns-then-n-lt10 : goal.returns-then-n-lt10
returns-then-n-lt10 t c = search (digits_low)

pub returns-else-n-lt10 : goal.returns-else-n-lt10
returns-else-n-lt10 t c = search (digits_more)
