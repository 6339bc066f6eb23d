-- What is claimed of the planners' text. Definitions only: `ReadBack` and `Outcomes` have the proofs.
-- Assumes nothing.
use Rattle.std.specs.Prelude.{ℕ, ◌≡◌, List, length, take, drop, Ok, Err, Some}
use Rattle.refusals.specs.declared.Refusal.{Refusal}
use Rattle.lanes.specs.declared.State.{State}
use Rattle.steps.specs.Memory.{Memory}
use Rattle.planners_text.specs.PlannersText.{page, write_of, Wrote}
use Rattle.planners_text.specs.Sheet.{sheet_in, written_cells}

-- Any two outcomes that meet the promise coincide.
abbrev pub OneText : Type 0
OneText =
    (s : State) (mem : Memory) (out : List ℕ) (r r' : Wrote) (o o' : List ℕ) → page r o ≡ write_of s mem out → page r' o' ≡ write_of s mem out
    → (r ≡ r') × (o ≡ o')

-- Read back by RFC 4180's rules, the lines are exactly the written cells with their readings.
abbrev pub ReadsBack : Type 0
ReadsBack =
    (s : State) (mem : Memory) (out : List ℕ) (n : ℕ) (o : List ℕ) → page (Ok n) o ≡ write_of s mem out
    → sheet_in (take n o) ≡ Some (written_cells s mem)

-- Bytes after the text stay.
abbrev pub BytesAfterStay : Type 0
BytesAfterStay =
    (s : State) (mem : Memory) (out : List ℕ) (n : ℕ) (o : List ℕ) → page (Ok n) o ≡ write_of s mem out
    → (length o ≡ length out) × (drop n o ≡ drop n out)

-- A refusal writes nothing.
abbrev pub RefusedText : Type 0
RefusedText =
    (s : State) (mem : Memory) (out : List ℕ) (r : Refusal) (o : List ℕ) → page (Err r) o ≡ write_of s mem out → o ≡ out
