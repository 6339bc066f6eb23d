-- `rewrite::again::again` meets its contract: what the check does not find alone.
use Rattle.std.proofs.Common.{refl}
use Rattle.rewrite.proofs.AgainLaws.{few_records, again_refused, again_schedule}
use Rattle.rewrite.proofs.again.again.Goals as goal

pub schedule-requires : goal.schedule-requires
schedule-requires c = few_records _ _ c.in-Ok.file.header _ c.in-Ok.ensures refl

pub returns-in-Err : goal.returns-in-Err
returns-in-Err c = search (again_refused)

pub returns-in-Ok : goal.returns-in-Ok
returns-in-Ok c = search (again_schedule)
