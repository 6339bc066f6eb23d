-- `steps::look::part_end` meets its contract: what the check does not find alone.
use Rattle.std.proofs.Common.{arith}
use Rattle.steps.proofs.LookLaws.{part_huge, part_end}
use Rattle.steps.proofs.look.part_end.Goals as goal

pub returns-then-s-ge63 : goal.returns-then-s-ge63
returns-then-s-ge63 c = part_huge _ _ _ c.requires (omega arith) (omega arith)

pub returns-then-size-len : goal.returns-then-size-len
returns-then-size-len c = part_end _ _ _ _ c.requires (omega arith) (cc) (omega arith)
