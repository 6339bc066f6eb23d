-- What a shared word of a state and its memories holds, and what a process knows without a step.
-- Assumes nothing.
use Rattle.std.specs.Prelude.{ℕ, Bool, true, false}
use Rattle.lanes.specs.declared.Op.{Op}
use Rattle.lanes.specs.declared.State.{State}
use Rattle.lanes.specs.Ranges.{marks_of}
use Rattle.steps.specs.declared.Word.{Word}
use Rattle.steps.specs.Memory.{Memory}
use Rattle.steps.specs.Touched.{held_in}

abbrev pub word_at : State → Memory → Word → ℕ
word_at s mem w = held_in (marks_of s) s.top mem w

-- In a write's rules 3 to 8 a process knows its own directory words without a step.
abbrev pub past_check : Op → Bool
past_check Op.Idle = false
past_check (Op.Read i c) = false
past_check (Op.Reading i) = false
past_check (Op.Asked i c) = false
past_check (Op.Store i v) = false
past_check (Op.Write i c) = false
past_check (Op.Marking i k) = true
