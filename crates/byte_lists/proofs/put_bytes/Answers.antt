-- `byte_lists::put_bytes` meets its contract: what the check does not find alone.
use Rattle.std.proofs.Common.{arith}
use Rattle.std.proofs.lemmas.Grind.{common_steps}
use Rattle.byte_lists.proofs.PutLaws.{put_none, put_all}
use Rattle.byte_lists.proofs.put_bytes.Goals as goal

pub returns-in_err-end : goal.returns-in_err-end
returns-in_err-end c = grind (arith, common_steps, put_none)

pub returns-then-out-end : goal.returns-then-out-end
returns-then-out-end c = put_none _ _ _ (omega arith)

pub returns : goal.returns
returns c = put_all _ _ _ _ _ (omega arith) c.if-out-end.false c.copy_from_slice.ensures.after
