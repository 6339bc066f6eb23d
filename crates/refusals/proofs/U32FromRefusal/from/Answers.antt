-- `refusals::U32FromRefusal::from` meets its contract: the numbers of the variants, of which the first is 1, are the table's.
use Rattle.std.specs.Prelude.{◌+◌, ◌≡◌, refl}
use Rattle.refusals.specs.Numbers.{number_of}
use Rattle.refusals.specs.declared.Refusal.{Refusal}
use Rattle.refusals.specs.contracts.Refusal.{the_type}
use denote.Enum.Declared.{tag_of}
use Rattle.refusals.proofs.U32FromRefusal.from.Goals as goal

numbered : (r : Refusal) → tag_of the_type r + 1 ≡ number_of r
numbered Refusal.ProcessCount = refl
numbered Refusal.CellCount = refl
numbered Refusal.LentLength = refl
numbered Refusal.NoSuchProcess = refl
numbered Refusal.NoSuchCell = refl
numbered Refusal.UnderWay = refl
numbered Refusal.NothingUnderWay = refl
numbered Refusal.OtherLengths = refl
numbered Refusal.OutOfRange = refl
numbered Refusal.AtWork = refl
numbered Refusal.NotASchedule = refl
numbered Refusal.Version = refl
numbered Refusal.TooManyCells = refl
numbered Refusal.RaggedRecords = refl
numbered Refusal.RecordKind = refl
numbered Refusal.FileTooLong = refl
numbered Refusal.NoRoom = refl
numbered Refusal.NothingWritten = refl

pub returns : goal.returns
returns c = numbered c.args.r
