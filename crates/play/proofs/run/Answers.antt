-- `play::run` meets its contract: what the check does not find alone.
use mathlib.Core.Path.{ap, ◌∙◌}
use Rattle.steps.specs.Memory.{words_mut}
use Rattle.acts.specs.Calls.{open_of}
use Rattle.acts.specs.Worlds.{world}
use Rattle.play.proofs.RunLaws.{going_start, going_next, going_end}
use Rattle.play.proofs.run.Goals as goal

pub loop-p-init : goal.loop-p-init
loop-p-init c = (rw c.new-p.ensures.next (search (going_start)), search)

pub loop-p-preserved : goal.loop-p-preserved
loop-p-preserved c = let listed = c.list-c.ensures.done _ c.loop-p.invariant.0.is in (
  rw c.list-c.ensures.on
      (going_next _ _ _ _ _ _ _ _ _ c.loop-p.invariant.0 _ _ c.loop-p-test.true c.list-c.ensures.count _ _ _ listed c.lines-at.ensures),
  search,
)

pub returns : goal.returns
returns c = going_end c.args.bytes.now _ _ (words_mut c.args.lent.now) _ _ c.args.out.now _ _ _
    (world c.loop-p.p.state (words_mut c.loop-p.lent)) c.loop-p.out c.loop-p.at _ c.requires c.terms_of.ensures
    (c.open-o.ensures ∙ ap (open_of c.terms_of.result) c.as_ref.ensures) c.put_sizes.ensures c.unwrap_or-at.ensures c.loop-p-test.false
    (rw (← c.new-p.ensures.state) c.loop-p.invariant.0)
