-- `text::lines::refused` meets its contract: what the check does not find alone.
use Rattle.text.proofs.SaidLaws.{refused_is}
use Rattle.text.proofs.lines.refused.Goals as goal

pub returns : goal.returns
returns c = search (refused_is)
