-- The code's types and their cases, and the array's operations, gathered for short headers.
-- Assumes nothing.
pub use Rattle.numbers.specs.declared.Cell.{Cell}
pub use Rattle.numbers.specs.declared.Place.{Place}
pub use Rattle.numbers.specs.declared.Terms.{Terms}
pub use Rattle.refusals.specs.declared.Refusal.{Refusal}
pub use Rattle.refusals.specs.declared.Refusal.TheVariants as Refusal
pub use Rattle.lanes.specs.declared.Check.{Check}
pub use Rattle.lanes.specs.declared.Check.TheVariants as Check
pub use Rattle.lanes.specs.declared.Marking.{Marking}
pub use Rattle.lanes.specs.declared.Marking.TheVariants as Marking
pub use Rattle.lanes.specs.declared.Op.{Op}
pub use Rattle.lanes.specs.declared.Op.TheVariants as Op
pub use Rattle.lanes.specs.declared.Lane.{Lane}
pub use Rattle.lanes.specs.declared.State.{State}
pub use Rattle.steps.specs.Memory.{Memory}
pub use Rattle.steps.specs.declared.Found.{Found}
pub use Rattle.steps.specs.declared.Found.TheVariants as Found
pub use Rattle.steps.specs.declared.Change.{Change}
pub use Rattle.steps.specs.declared.Change.TheVariants as Change
pub use Rattle.steps.specs.declared.Next.{Next}
pub use Rattle.steps.specs.declared.Next.TheVariants as Next
pub use Rattle.steps.specs.declared.Turn.{Turn}
pub use Rattle.acts.specs.declared.Ask.{Ask}
pub use Rattle.acts.specs.declared.Ask.TheVariants as Ask
pub use Rattle.acts.specs.declared.Answer.{Answer}
pub use Rattle.acts.specs.declared.Answer.TheVariants as Answer
pub use Rattle.acts.specs.declared.Stepped.{Stepped}
pub use Rattle.acts.specs.declared.Acted.{Acted}
pub use Rattle.acts.specs.Calls.{Opening, Verdict, Response}
