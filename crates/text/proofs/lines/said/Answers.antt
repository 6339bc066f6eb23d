-- `text::lines::said` meets its contract: what the check does not find alone.
use Rattle.text.proofs.SaidLaws.{said_read, said_written, said_asked}
use Rattle.text.proofs.lines.said.Goals as goal

pub returns-in-Read : goal.returns-in-Read
returns-in-Read c = search (said_read)

pub returns-in-Written : goal.returns-in-Written
returns-in-Written c = search (said_written)

pub returns-in-Asked : goal.returns-in-Asked
returns-in-Asked c = search (said_asked)
