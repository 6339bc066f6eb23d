-- `planners_text::put_text` meets its contract: what the check does not find alone.
use Rattle.planners_text.proofs.WriteLaws.{lines_room, put_all}
use Rattle.planners_text.proofs.put_text.Goals as goal

pub put_lines-end-requires : goal.put_lines-end-requires
put_lines-end-requires c = search (lines_room)

pub returns : goal.returns
returns c = search (put_all)
