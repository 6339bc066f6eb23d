-- The planners' program's output, from the file's bytes: the text of the grid that the file leaves, or why there is none.
-- Assumes nothing.
use Rattle.std.specs.Prelude.{ℕ, List, Ok, Err, Some}
use Rattle.qhs.specs.declared.Header.{Header}
use Rattle.qhs.specs.Qhs.{terms_of, read_of, Reading}
use Rattle.lanes.specs.declared.State.{State}
use Rattle.steps.specs.Memory.{Memory}
use Rattle.acts.specs.Worlds.{grid, World, opened_world}
use Rattle.text.specs.Text.{refused_line, file_refused_line}
use Rattle.byte_lists.specs.Bytes.{Placed, placed, put_of}
use Rattle.play.specs.Play.{filled, after}
use Rattle.planners_text.specs.PlannersText.{Page, write_of, Wrote}

-- The grid's text; where it is refused, `refused R`.
abbrev pub shown_as : List ℕ → Wrote → Placed
shown_as out (Ok end) = placed (Some end) out
shown_as out (Err r) = put_of out 0 (refused_line r)

abbrev pub shown : Page → Placed
shown p = shown_as p.out p.answer

abbrev pub shown_of : World State → List ℕ → Placed
shown_of w out = shown (write_of w.state w.memory out)

-- All records are played as the schedule program plays them.
unfoldable pub left : List ℕ → Header → ℕ → Memory → List ℕ → Placed
left bytes h n mem out = shown_of (after bytes (opened_world grid (terms_of h) mem) n) out

-- A refused file prints only `file refused R`.
abbrev pub sheet_as : List ℕ → List ℕ → Reading → Placed
sheet_as bytes out (Err r) = put_of out 0 (file_refused_line r)
sheet_as bytes out (Ok file) = left bytes file.header file.records (filled file.header) out

unfoldable pub sheet_of : List ℕ → List ℕ → Placed
sheet_of bytes out = sheet_as bytes out (read_of bytes)
