-- A grid written out as RFC 4180 text into a lent buffer: document 02, W1.
-- Assumes nothing.
use Rattle.std.specs.Prelude.{ℕ, Bool, true, false, not, List, [], ◌∷◌, ◌++◌, ltb, length, Result, Ok, Err, Option, None, Some}
use Rattle.lists.specs.Lists.{gathered}
use Rattle.logic.specs.Below.{below}
use Rattle.refusals.specs.Orders.{Rule, ◌gives◌, orders}
use Rattle.logic.specs.Pick.{pick}
use Rattle.refusals.specs.declared.Refusal.{Refusal}
use Rattle.numbers.specs.Cells.{cell_at}
use Rattle.lanes.specs.declared.State.{State}
use Rattle.steps.specs.Memory.{Memory}
use Rattle.acts.specs.Calls.{lengths_fit}
use Rattle.byte_lists.specs.Bytes.{word, decimal, splice}
use Rattle.quiet.specs.declared.Quarter.{Quarter}
use Rattle.quiet.specs.Quiet.{reading_at, unfit, at_work, scan_of}

-- CRLF after each line.
abbrev pub crlf : List ℕ
crlf = 13 ∷ 10 ∷ []

-- Header `quarter,load`,
abbrev pub header : List ℕ
header = word "quarter,load" ++ crlf

-- then one line per written cell: its number and its reading, decimal.
abbrev pub line_of : ℕ → ℕ → List ℕ
line_of i v = decimal i ++ (word "," ++ (decimal v ++ crlf))

-- Only a written cell has a line: the read of the cell says whether it is, and has the reading.
abbrev pub line_as : ℕ → Option Quarter → List ℕ
line_as i None = []
line_as i (Some q) = pick q.written (line_of i q.reading) []

abbrev pub quarter_at : State → Memory → ℕ → Option Quarter
quarter_at s mem i = reading_at s (cell_at s.terms i) mem

-- The lines of the cells below n, in rising order.
unfoldable pub lines_below : State → Memory → ℕ → List ℕ
lines_below s mem n = gathered n (λ (i : ℕ). line_as i (quarter_at s mem i))

unfoldable pub text_of : State → Memory → List ℕ
text_of s mem = header ++ lines_below s mem s.terms.m

-- 9 (word): a word of some cell's check lies outside its memory.
abbrev pub inside : Option Quarter → Bool
inside None = false
inside (Some q) = true

abbrev pub words_fit : State → Memory → Bool
words_fit s mem = below s.terms.m (λ (i : ℕ). inside (quarter_at s mem i))

-- How many bytes were written, or why none was.
abbrev pub Wrote : Type 0
Wrote = Result ℕ Refusal

-- What writing determines: the answer and the buffer. The state and the memories are only read.
pub record Page : Type 0 where
  pub answer : Wrote
  pub out : List ℕ

abbrev pub page : Wrote → List ℕ → Page
page answer out = record { answer = answer; out = out }

-- With a refusal nothing is written.
abbrev pub nothing_written : List ℕ → Refusal → Page
nothing_written out r = page (Err r) out

-- Refusals: 9 (state), 8, 10, 9 (word),
abbrev pub text_refusals : State → Memory → List Rule
text_refusals s mem =
    unfit (scan_of s) gives Refusal.OutOfRange ∷ not (lengths_fit s.terms mem) gives Refusal.OtherLengths
    ∷ at_work (scan_of s) gives Refusal.AtWork ∷ not (words_fit s mem) gives Refusal.OutOfRange ∷ []

-- then 17 if the text doesn't fit.
abbrev pub room_refusals : State → Memory → List ℕ → List Rule
room_refusals s mem out = ltb (length out) (length (text_of s mem)) gives Refusal.NoRoom ∷ []

-- Bytes after the text stay.
abbrev pub put_text : State → Memory → List ℕ → Page
put_text s mem out =
    orders (nothing_written out) (room_refusals s mem out) (page (Ok (length (text_of s mem))) (splice out 0 (text_of s mem)))

unfoldable pub write_of : State → Memory → List ℕ → Page
write_of s mem out = orders (nothing_written out) (text_refusals s mem) (put_text s mem out)
