-- `text::lines::file_refused` meets its contract: what the check does not find alone.
use Rattle.text.proofs.SaidLaws.{file_refused_is}
use Rattle.text.proofs.lines.file_refused.Goals as goal

pub returns : goal.returns
returns c = search (file_refused_is)
