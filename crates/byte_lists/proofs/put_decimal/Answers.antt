-- `byte_lists::put_decimal` meets its contract: what the check does not find alone.
use Rattle.byte_lists.proofs.MadeLaws.{put_number}
use Rattle.byte_lists.proofs.put_decimal.Goals as goal

pub returns : goal.returns
returns c = search (put_number)
