-- `rewrite::again::run` meets its contract: what the check does not find alone.
use Rattle.rewrite.proofs.AgainLaws.{shows}
use Rattle.rewrite.proofs.again.run.Goals as goal

pub returns : goal.returns
returns c = search (shows)
