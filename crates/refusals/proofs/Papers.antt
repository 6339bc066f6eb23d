-- The papers' table of refusals, row by row. It tells the numbers apart from `Numbers`, so that no two of them can be exchanged there.
-- A refusal more is a line.
-- Assumes nothing.
use Rattle.std.specs.Prelude.{ℕ, Bool, true, ◌&&◌, List, [], ◌∷◌, T, eqb}
use Rattle.refusals.specs.declared.Refusal.{Refusal}
use Rattle.refusals.specs.Numbers.{number_of}

pub record Line : Type 0 where
  pub number : ℕ
  pub refusal : Refusal

infixl 80 ◌is◌
abbrev pub ◌is◌ : ℕ → Refusal → Line
n is r = record { number = n; refusal = r }

abbrev pub papers : List Line
papers =
    -- open: p is 0 or over 16
    1 is Refusal.ProcessCount
    -- open: m is 0 or over 65,536
    ∷ 2 is Refusal.CellCount
    -- open: a lent length is not as above
    ∷ 3 is Refusal.LentLength
    -- process not below p
    ∷ 4 is Refusal.NoSuchProcess
    -- cell not below m, or hour not below floor(m / 4)
    ∷ 5 is Refusal.NoSuchCell
    -- begin: this process has an operation under way
    ∷ 6 is Refusal.UnderWay
    -- step: this process has none
    ∷ 7 is Refusal.NothingUnderWay
    -- lent lengths not those of the state's p and m
    ∷ 8 is Refusal.OtherLengths
    -- a number in the state is outside its range; or a word, a draw or a new number would be
    ∷ 9 is Refusal.OutOfRange
    -- hour summary: some operation is under way
    ∷ 10 is Refusal.AtWork
    -- file: under 24 bytes, or the mark is wrong
    ∷ 11 is Refusal.NotASchedule
    -- file: version not 1
    ∷ 12 is Refusal.Version
    -- file: over 2,040 cells
    ∷ 13 is Refusal.TooManyCells
    -- file: bytes after the header not a multiple of 8
    ∷ 14 is Refusal.RaggedRecords
    -- file: a record kind over 3
    ∷ 15 is Refusal.RecordKind
    -- file: over 65,536 bytes
    ∷ 16 is Refusal.FileTooLong
    -- W1: the text doesn't fit
    ∷ 17 is Refusal.NoRoom
    -- W4: none of the four is written
    ∷ 18 is Refusal.NothingWritten
    ∷ []

abbrev pub told : List Line → Bool
told [] = true
told (l ∷ ls) = eqb (number_of l.refusal) l.number && told ls

pub as_the_papers_say : T (told papers)
as_the_papers_say = tt
