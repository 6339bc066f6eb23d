-- `text::lines::told` meets its contract: what the check does not find alone.
use Rattle.text.proofs.SaidLaws.{told_refused}
use Rattle.text.proofs.lines.told.Goals as goal

pub returns-in-Err : goal.returns-in-Err
returns-in-Err c = search (told_refused)
