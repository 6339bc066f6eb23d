-- `sheet::run` meets its contract: what the check does not find alone.
use Rattle.std.proofs.Common.{ap, ◌∙◌}
use Rattle.planners_text.specs.PlannersText.{write_of}
use Rattle.sheet.proofs.SheetLaws.{left_text, left_refused}
use Rattle.sheet.proofs.run.Goals as goal

pub returns-in-Ok : goal.returns-in-Ok
returns-in-Ok c = let wrote = c.write_text.ensures ∙ ap (λ m. write_of c.state_after-s.result m c.args.out.now) c.as_ref.ensures in
    left_text _ _ _ _ _ _ _ _ _ c.state_after-s.ensures.done wrote _ c.in-Ok.is

pub returns-in-Err : goal.returns-in-Err
returns-in-Err c = let wrote = c.write_text.ensures ∙ ap (λ m. write_of c.state_after-s.result m c.args.out.now) c.as_ref.ensures in
    left_refused _ _ _ _ _ _ _ _ _ c.state_after-s.ensures.done wrote _ _
    c.in-Err.is c.put_refused.ensures
