-- `text::lines::answer` meets its contract: what the check does not find alone.
use Rattle.text.proofs.SaidLaws.{answered}
use Rattle.text.proofs.lines.answer.Goals as goal

pub returns : goal.returns
returns c = search (answered)
