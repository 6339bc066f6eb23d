-- `qhs_writer::write` meets its contract: what the check does not find alone.
use Rattle.qhs_writer.proofs.WriteLaws.{too_long, many_cells, unknown_kind, not_counted, left_to_room}
use Rattle.std.proofs.Common.{ap, not}
use Rattle.std.proofs.lemmas.Result.{err_from_is_err_and}
use Rattle.qhs_writer.proofs.write.Goals as goal

pub returns-then-n-gt-FILE_RECORDS : goal.returns-then-n-gt-FILE_RECORDS
returns-then-n-gt-FILE_RECORDS c = search (too_long)

pub returns-then-h-gt-FILE_CELLS : goal.returns-then-h-gt-FILE_CELLS
returns-then-h-gt-FILE_CELLS c = search (many_cells)

pub returns-then-not-known : goal.returns-then-not-known
returns-then-not-known c = search (unknown_kind)

pub returns-in_err-counts_of : goal.returns-in_err-counts_of
returns-in_err-counts_of c =
    let p = err_from_is_err_and c.from_residual.result c.from_residual.ensures.1 in
    rw (p.1, p.2)
    (not_counted _ _ _ _ c.count-n.ensures c.if-n-gt-FILE_RECORDS.false c.if-h-gt-FILE_CELLS.false _ c.known.ensures (ap not c.if-not-known.false) _
    c.counts_of.ensures _ c.in_err-counts_of.was)

pub returns : goal.returns
returns c =
    left_to_room _ _ _ _ c.count-n.ensures c.if-n-gt-FILE_RECORDS.false c.if-h-gt-FILE_CELLS.false _ c.known.ensures (ap not c.if-not-known.false) _
    c.counts_of.ensures _ c.in_ok-counts_of.was c.filed.ensures
