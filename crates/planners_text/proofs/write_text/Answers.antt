-- `planners_text::write_text` meets its contract: what the check does not find alone.
use Rattle.planners_text.proofs.WriteLaws.{write_9, write_8, write_10, write_9_word, write_text}
use Rattle.planners_text.proofs.write_text.Goals as goal

pub returns-then-is_unfit : goal.returns-then-is_unfit
returns-then-is_unfit c = search (write_9)

pub returns-then-not-lengths_fit : goal.returns-then-not-lengths_fit
returns-then-not-lengths_fit c = search (write_8)

pub returns-then-is_at_work : goal.returns-then-is_at_work
returns-then-is_at_work c = search (write_10)

pub returns-in-None : goal.returns-in-None
returns-in-None c = search (write_9_word)

pub returns-in-Some : goal.returns-in-Some
returns-in-Some c = search (write_text)
