-- `sheet::sheet` meets its contract: what the check does not find alone.
use Rattle.sheet.proofs.SheetLaws.{small, left_filled, sheet_refused, sheet_schedule}
use Rattle.sheet.proofs.sheet.Goals as goal

pub with_filled-requires-clause-fits : goal.with_filled-requires-clause-fits
with_filled-requires-clause-fits c = let few = small _ _ _ _ c.read.ensures c.in-Ok.is in record { p_high = few.p_high; m_high = few.m_high }

pub returns-in-Err : goal.returns-in-Err
returns-in-Err c = search (sheet_refused)

pub returns-in-Ok : goal.returns-in-Ok
returns-in-Ok c = sheet_schedule _ _ _ c.read.ensures _ _ _ c.in-Ok.is
    (let ran = c.with_filled.ensures in left_filled _ _ _ _ _ _ _ _ _ ran.4 ran.5 ran.6 ran.7)
