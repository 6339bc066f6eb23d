-- What falls in `planners_text::cells::digits`.
use Rattle.planners_text.proofs.cells.+digits.Given as goal

abbrev pub decreases-digits : goal.decreases-digits
decreases-digits l = l.n
