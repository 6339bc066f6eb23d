-- `play::play` meets its contract: what the check does not find alone.
use Rattle.std.proofs.Common.{arith, ap, length}
use Rattle.play.proofs.FileLaws.{play_small, play_refused, play_ready}
use Rattle.play.proofs.play.Goals as goal

pub with_filled-requires-clause-fits : goal.with_filled-requires-clause-fits
with_filled-requires-clause-fits c = play_small _ _ _ _ c.read.ensures c.in-Ok.is

pub with_filled-requires-clause-takes : goal.with_filled-requires-clause-takes
with_filled-requires-clause-takes c lent text w t =
    play_ready _ _ _ _ _ (omega (arith, c.if-out-lt-OUTPUT.false, ap length t)) c.read.ensures c.in-Ok.is

pub returns-in-Err : goal.returns-in-Err
returns-in-Err c = search (play_refused)
