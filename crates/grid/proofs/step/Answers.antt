-- `grid::step` meets its contract: what the check does not find alone.
use mathlib.Core.Path.{refl, ap, sym, ◌∙◌}
use Rattle.acts.specs.Inner.{lane_at}
use Rattle.acts.proofs.StateLaws.{judged_at, step_is, step_kept}
use Rattle.grid.proofs.step.Goals as goal

pub invariant_of-seat : goal.invariant_of-seat
invariant_of-seat c = let seen = c.lane_of-j.ensures.0 ∙ ap lane_at c.named.ensures in
    record { judged = judged_at c.args.s c.args.q.0 _ c.lane_of-k.ensures.0 _ refl _ _ seen refl _ c.fits-fits.ensures }

pub returns-then-changes-clause-done : goal.returns-then-changes-clause-done
returns-then-changes-clause-done c = let seen = c.lane_of-j.ensures.0 ∙ ap lane_at c.named.ensures in
    step_is c.args.s c.args.q.0 _ c.lane_of-k.ensures.0 _ refl _ _ seen refl _ _ _ _ c.fits-fits.ensures c.act-b.ensures.done

pub returns-else-changes-clause-done : goal.returns-else-changes-clause-done
returns-else-changes-clause-done c = let seen = c.lane_of-j.ensures.0 ∙ ap lane_at c.named.ensures in
    step_kept c.args.s c.args.q.0 _ c.lane_of-k.ensures.0 _ refl _ _ seen refl _ _ _ _ c.fits-fits.ensures c.act-b.ensures.done
    (sym c.changes.ensures ∙ c.if-changes.false)
