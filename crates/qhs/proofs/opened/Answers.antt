-- `qhs::opened` meets its contract: what the check does not find alone.
use Rattle.std.proofs.lemmas.Result.{err_from_is_err_and}
use Rattle.qhs.proofs.ReadLaws.{opened_not}
use Rattle.qhs.proofs.opened.Goals as goal

pub returns-in_err-counts_of : goal.returns-in_err-counts_of
returns-in_err-counts_of c =
    let p = err_from_is_err_and c.from_residual.result c.from_residual.ensures.1 in
    rw (p.1, p.2) (opened_not c.args.header c.args.records c.counts_of.result c.counts_of.ensures _ c.in_err-counts_of.was)
