-- A sheet read from text: a heading, and rows of a cell's number and its reading. What the planners' text is to give back.
-- Assumes nothing.
use Rattle.std.specs.Prelude.{ℕ, Bool, true, false, ◌&&◌, List, [], ◌∷◌, leb, Option, None, Some}
use Rattle.lists.specs.Lists.{gathered}
use Rattle.logic.specs.Pick.{pick}
use Rattle.lanes.specs.declared.State.{State}
use Rattle.quiet.specs.declared.Quarter.{Quarter}
use Rattle.steps.specs.Memory.{Memory}
use Rattle.byte_lists.specs.Bytes.{word}
use Rattle.byte_lists.specs.Decimals.{read_onto}
use Rattle.planners_text.specs.PlannersText.{quarter_at}
use Rattle.planners_text.specs.Rfc4180.{Record, records_in}

pub record Row : Type 0 where
  pub cell : ℕ
  pub reading : ℕ

abbrev pub row : ℕ → ℕ → Row
row cell reading = record { cell = cell; reading = reading }

pub record Sheet : Type 0 where
  pub heading : Record
  pub rows : List Row

abbrev pub sheet : Record → List Row → Sheet
sheet heading rows = record { heading = heading; rows = rows }

-- A field that is a number in decimal: digits, one at least.
abbrev pub all : (ℕ → Bool) → List ℕ → Bool
all f [] = true
all f (b ∷ bytes) = f b && all f bytes

abbrev pub is_digit : ℕ → Bool
is_digit b = leb 48 b && leb b 57

abbrev pub is_number : List ℕ → Bool
is_number [] = false
is_number (b ∷ bytes) = all is_digit (b ∷ bytes)

-- A row is a record of two numbers.
abbrev pub row_in : Record → Option Row
row_in [] = None
row_in (i ∷ []) = None
row_in (i ∷ (v ∷ [])) = pick (is_number i && is_number v) (Some (row (read_onto 0 i) (read_onto 0 v))) None
row_in (i ∷ (v ∷ (w ∷ fields))) = None

abbrev pub joined : Option Row → Option (List Row) → Option (List Row)
joined None rows = None
joined (Some r) None = None
joined (Some r) (Some rows) = Some (r ∷ rows)

abbrev pub rows_in : List Record → Option (List Row)
rows_in [] = Some []
rows_in (r ∷ records) = joined (row_in r) (rows_in records)

abbrev pub headed : Record → Option (List Row) → Option Sheet
headed heading None = None
headed heading (Some rows) = Some (sheet heading rows)

-- The first record is the heading (3), every other a row.
abbrev pub sheet_as : Option (List Record) → Option Sheet
sheet_as None = None
sheet_as (Some []) = None
sheet_as (Some (heading ∷ records)) = headed heading (rows_in records)

abbrev pub sheet_in : List ℕ → Option Sheet
sheet_in text = sheet_as (records_in text)

-- The written cells below n with their readings, in rising order.
abbrev pub written_as : ℕ → Option Quarter → List Row
written_as i None = []
written_as i (Some q) = pick q.written (row i q.reading ∷ []) []

unfoldable pub written_below : State → Memory → ℕ → List Row
written_below s mem n = gathered n (λ (i : ℕ). written_as i (quarter_at s mem i))

abbrev pub heading : Record
heading = word "quarter" ∷ (word "load" ∷ [])

abbrev pub written_cells : State → Memory → Sheet
written_cells s mem = sheet heading (written_below s mem s.terms.m)
