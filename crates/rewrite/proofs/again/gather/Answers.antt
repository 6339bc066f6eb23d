-- `rewrite::again::gather` meets its contract: what the check does not find alone.
use Rattle.rewrite.proofs.AgainLaws.{cell_fits_lem, gathered_none, gathered_next}
use native.Mathlib.Omega.{arith}
use Rattle.rewrite.proofs.again.gather.Goals as goal

pub loop-k-init : goal.loop-k-init
loop-k-init c = search (gathered_none)

pub overflow_cast-cells : goal.overflow_cast-cells
overflow_cast-cells c = omega (arith, cell_fits_lem _ _ c.record_at-r.result (λ i. omega (arith, c.type_inv.bytes i)) c.record_at-r.ensures)

pub loop-k-preserved : goal.loop-k-preserved
loop-k-preserved c = search (gathered_next)
