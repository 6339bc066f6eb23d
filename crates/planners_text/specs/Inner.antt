-- What functions inside the crate ask and promise; no statement cites it.
-- Assumes nothing.
use Rattle.std.specs.Prelude.{ℕ, ◌+◌, ◌≤◌, ◌≡◌, List, length, Some, None, Option}
use Rattle.logic.specs.Pick.{pick}
use Rattle.lanes.specs.declared.State.{State}
use Rattle.steps.specs.Memory.{Memory}
use Rattle.byte_lists.specs.Bytes.{splice}
use Rattle.planners_text.specs.PlannersText.{text_of, words_fit}

-- A number is the length of some bytes, of which there are few.
pub record Long (most : ℕ) (bytes : List ℕ) (n : ℕ) : Type 0 where
  pub is : n ≡ length bytes
  pub few : n ≤ most

-- Bytes were put into a buffer, and end there.
pub record Laid (out : List ℕ) (at : ℕ) (bytes after : List ℕ) (end : ℕ) : Type 0 where
  pub ends : end ≡ at + length bytes
  pub shows : after ≡ splice out at bytes

-- What the first pass finds.
abbrev pub measured_of : State → Memory → Option ℕ
measured_of s mem = pick (words_fit s mem) (Some (length (text_of s mem))) None
