-- `text::lines::sizes` meets its contract: what the check does not find alone.
use Rattle.text.proofs.SaidLaws.{sizes_is}
use Rattle.text.proofs.lines.sizes.Goals as goal

pub returns : goal.returns
returns c = search (sizes_is)
