-- `batch::run` meets its contract: what the check does not find alone.
use mathlib.Core.Path.{◌≡◌, refl, ap, sym, ◌∙◌}
use Rattle.acts.specs.Calls.{stepped_as}
use Rattle.acts.specs.Inner.{lane_at}
use Rattle.acts.proofs.StateLaws.{judged_at}
use Rattle.batch.proofs.BatchLaws.{going_start, going_more, going_kept, going_end, entries_are}
use Rattle.batch.proofs.run.Goals.{then-changes, else-changes}
use Rattle.batch.proofs.run.Goals as goal

pub loop-i-init : goal.loop-i-init
loop-i-init c = (
  search,
  going_start c.args.kinds.now c.args.processes.now c.args.cells.now c.args.values.now c.args.answers.now _ c.args.s _ _
      (entries_are c.args.kinds.now c.args.processes.now c.args.cells.now c.args.values.now c.args.answers.now _ _ _ _ c.min.ensures
      c.min-2.ensures c.min-3.ensures c.min-n.ensures)
      c.fits-fits.ensures,
)

pub invariant_of-seat : goal.invariant_of-seat
invariant_of-seat c = let seen = c.lane_of-j.ensures.0 ∙ ap lane_at c.named.ensures in
    rw (← c.loop-i.invariant.1.terms)
    (record { judged = judged_at c.loop-i.t _ _ c.lane_of-k.ensures.0 _ refl _ _ seen refl _ c.loop-i.invariant.1.fine })

pub loop-i-preserved : goal.loop-i-preserved
loop-i-preserved c = let from = c.lane_of-j.ensures.0 ∙ ap lane_at c.named.ensures in
    let kept = going_kept _ _ _ _ _ _ _ _ _ _ _ c.loop-i.t _ c.loop-i.invariant.1 _ _ _ _ c.lane_of-k.ensures.0 from
    c.entry-b.ensures.done in
    let left : c.if-changes.t ≡ (stepped_as c.loop-i.t c.lane_of-k.result c.entry-b.result).state = elim c.if-changes.branch [
      | then-changes w ↦ w.t-is
      | else-changes w ↦ w.t-is ∙ kept (sym c.changes.ensures ∙ w.if-changes.false)
    ] in (
      search,
      going_more _ _ _ _ _ _ _ _ _ _ _ c.loop-i.t _ c.loop-i.invariant.1 _ _ _ _ _ _ _ left c.loop-i-test.true c.lane_of-k.ensures.0
          from c.entry-b.ensures.done (c.code_of.ensures.word, c.code_of.ensures.back) refl,
    )

pub returns-clause-done : goal.returns-clause-done
returns-clause-done c = (going_end _ _ _ _ _ _ _ _ _ _ _ _ _ c.loop-i.invariant.1 c.loop-i-test.false).0
