-- The table of refusals, and the number that the papers give each: 1 to 16 in document 01's table, 17 in 02's W1, 18 in W4.
-- A refusal more is a line of `table` and a line of `row`; all else of the table follows from the two.
-- Assumes nothing.
use Rattle.std.specs.Prelude.{ℕ, ◌≡◌, refl, List, [], ◌∷◌, get_or}
use Rattle.refusals.specs.declared.Refusal.{Refusal}

-- The refusals at their numbers, from 0 on; at a number of no row, the one that any other number has.
abbrev pub table : List Refusal
table =
    Refusal.NothingWritten
    ∷ Refusal.ProcessCount
    ∷ Refusal.CellCount
    ∷ Refusal.LentLength
    ∷ Refusal.NoSuchProcess
    ∷ Refusal.NoSuchCell
    ∷ Refusal.UnderWay
    ∷ Refusal.NothingUnderWay
    ∷ Refusal.OtherLengths
    ∷ Refusal.OutOfRange
    ∷ Refusal.AtWork
    ∷ Refusal.NotASchedule
    ∷ Refusal.Version
    ∷ Refusal.TooManyCells
    ∷ Refusal.RaggedRecords
    ∷ Refusal.RecordKind
    ∷ Refusal.FileTooLong
    ∷ Refusal.NoRoom
    ∷ Refusal.NothingWritten
    ∷ []

-- The refusal of a number.
abbrev pub refusal_of : ℕ → Refusal
refusal_of n = get_or table n Refusal.NothingWritten

-- A refusal's row: its number, at which the table has it.
pub record Row (r : Refusal) : Type 0 where
  pub number : ℕ
  pub there : refusal_of number ≡ r

abbrev pub stands : {r : Refusal} (n : ℕ) → refusal_of n ≡ r → Row r
stands n e = record { number = n; there = e }

abbrev pub row : (r : Refusal) → Row r
row Refusal.ProcessCount = stands 1 refl
row Refusal.CellCount = stands 2 refl
row Refusal.LentLength = stands 3 refl
row Refusal.NoSuchProcess = stands 4 refl
row Refusal.NoSuchCell = stands 5 refl
row Refusal.UnderWay = stands 6 refl
row Refusal.NothingUnderWay = stands 7 refl
row Refusal.OtherLengths = stands 8 refl
row Refusal.OutOfRange = stands 9 refl
row Refusal.AtWork = stands 10 refl
row Refusal.NotASchedule = stands 11 refl
row Refusal.Version = stands 12 refl
row Refusal.TooManyCells = stands 13 refl
row Refusal.RaggedRecords = stands 14 refl
row Refusal.RecordKind = stands 15 refl
row Refusal.FileTooLong = stands 16 refl
row Refusal.NoRoom = stands 17 refl
row Refusal.NothingWritten = stands 18 refl

abbrev pub number_of : Refusal → ℕ
number_of r = (row r).number
