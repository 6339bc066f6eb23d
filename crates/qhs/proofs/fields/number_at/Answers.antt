-- `qhs::fields::number_at` meets its contract: what the check does not find alone.
use Rattle.std.proofs.Common.{◌<◌, arith}
use Rattle.qhs.proofs.FieldLaws.{gathered_none, room, gathered_next}
use Rattle.qhs.proofs.fields.number_at.Goals as goal

pub loop-i-init : goal.loop-i-init
loop-i-init c = gathered_none _ _ _

pub overflow_mul-n : goal.overflow_mul-n
overflow_mul-n c = omega (arith, room _ _ _ _ _ c.loop-i.invariant (omega arith) c.requires.0)

pub overflow_add-n : goal.overflow_add-n
overflow_add-n c = let low : c.from.result < 256 = omega arith in omega (arith, room _ _ _ _ _ c.loop-i.invariant (omega arith) c.requires.0)

pub loop-i-preserved : goal.loop-i-preserved
loop-i-preserved c = let low : c.from.result < 256 = omega arith in gathered_next _ _ _ _ _ _ c.loop-i.invariant (omega arith) (cc) low
