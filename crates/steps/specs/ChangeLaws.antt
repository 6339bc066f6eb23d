-- What callers may use of a change, in place of its definition's text.
-- Assumes nothing.
use Rattle.std.specs.Prelude.{◌≡◌, refl}
use Rattle.lanes.specs.declared.Lane.{Lane}
use Rattle.steps.specs.declared.Change.{Change}
use Rattle.steps.specs.Changes.{lane_after}

-- A change leaves the count of the lane's steps.
pub same_steps : (ch : Change) (l : Lane) → (lane_after ch l).steps ≡ l.steps
same_steps Change.Nothing l = refl
same_steps (Change.Reading i v) l = refl
same_steps (Change.Link i w) l = refl
same_steps (Change.Directory k w) l = refl
same_steps (Change.Mark start n x) l = refl
same_steps (Change.Marks n) l = refl
same_steps (Change.Top top n) l = refl
