-- `grid::begin` meets its contract: what the check does not find alone.
use Rattle.acts.proofs.StateLaws.{begun_is}
use Rattle.grid.proofs.begin.Goals as goal

pub returns : goal.returns
returns c = search (begun_is)
