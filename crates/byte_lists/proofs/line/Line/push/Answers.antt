-- `byte_lists::line::Line::push` meets its contract: what the check does not find alone.
use Rattle.std.proofs.Common.{refl}
use Rattle.byte_lists.proofs.LineLaws.{byte_in, byte_past}
use Rattle.byte_lists.proofs.line.Line.push.Goals as goal

pub returns-then-self-lt-ROOM : goal.returns-then-self-lt-ROOM
returns-then-self-lt-ROOM c = byte_in _ _ _ c.if-self-lt-ROOM.true refl refl

pub returns-else-self-lt-ROOM : goal.returns-else-self-lt-ROOM
returns-else-self-lt-ROOM c = byte_past _ _ c.if-self-lt-ROOM.false
