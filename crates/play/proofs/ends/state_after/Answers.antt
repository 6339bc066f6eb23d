-- `play::ends::state_after` meets its contract: what the check does not find alone.
use Rattle.play.proofs.EndLaws.{ending_start}
use Rattle.play.proofs.ends.state_after.Goals as goal

pub loop-p-init : goal.loop-p-init
loop-p-init c = (rw c.new-p.ensures.next (search (ending_start)), search)
