-- `play::lists::lines` meets its contract: what the check does not find alone.
use native.Mathlib.Omega.{arith}
use Rattle.play.proofs.LineLaws.{lines_start, lines_next}
use Rattle.play.proofs.lists.lines.Goals as goal

pub loop-i-init : goal.loop-i-init
loop-i-init c = (omega arith, lines_start _ _ _ _)

pub loop-i-preserved : goal.loop-i-preserved
loop-i-preserved c = (
  omega arith,
  lines_next _ _ _ _ _ _ _ _ _ _ _ _ c.requires (omega arith) c.loop-i.invariant.1
      c.answer_of-a.ensures c.put_answer.ensures.laid c.put_answer.ensures.short c.unwrap_or-end.ensures,
)
