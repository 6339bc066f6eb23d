-- The hour summary of document 01, over the written quarters only (02, W4): for hour h, cells 4h to 4h + 3 are looked at when no
-- operation is under way.
-- Assumes nothing.
use Rattle.std.specs.Prelude.{ℕ, ◌+◌, ◌*◌, ◌/◌, Bool, true, false, not, ◌||◌, List, [], ◌∷◌, Option, None, Some, Result, Ok, Err, ltb, eqb, length}
use Rattle.numbers.specs.Cells.{cell_at}
use Rattle.refusals.specs.Orders.{Rule, ◌gives◌, orders}
use Rattle.logic.specs.Pick.{pick}
use Rattle.refusals.specs.declared.Refusal.{Refusal}
use Rattle.lanes.specs.declared.State.{State}
use Rattle.steps.specs.Memory.{Memory}
use Rattle.acts.specs.Calls.{lengths_fit}
use Rattle.quiet.specs.declared.Quarter.{Quarter}
use Rattle.quiet.specs.Quiet.{unfit, at_work, reading_at, scan_of}
use Rattle.summary.specs.declared.Hour.{Hour}

-- Peak is the greatest of the readings, mean = floor(sum / how many), and the summary says how many there were.
abbrev pub greater : ℕ → ℕ → ℕ
greater a b = pick (ltb a b) b a

abbrev pub greatest : List ℕ → ℕ
greatest [] = 0
greatest (v ∷ vs) = greater (greatest vs) v

abbrev pub sum_of : List ℕ → ℕ
sum_of [] = 0
sum_of (v ∷ vs) = sum_of vs + v

abbrev pub hour_of : List ℕ → Hour
hour_of vs = record { peak = greatest vs; mean = sum_of vs / length vs; count = length vs }

-- Cells 4h to 4h + 3: the four from 4h on.
abbrev pub four_from : ℕ → List ℕ
four_from i = i ∷ ((i + 1) ∷ ((i + 2) ∷ ((i + 3) ∷ [])))

abbrev pub quarters : State → Memory → List ℕ → List (Option Quarter)
quarters s mem [] = []
quarters s mem (i ∷ is) = reading_at s (cell_at s.terms i) mem ∷ quarters s mem is

-- 9 (word): a word of some quarter's check lies outside its memory.
abbrev pub outside : Option Quarter → Bool
outside None = true
outside (Some q) = false

abbrev pub any_outside : List (Option Quarter) → Bool
any_outside [] = false
any_outside (q ∷ qs) = outside q || any_outside qs

-- The readings of the written quarters.
abbrev pub counted : Option Quarter → List ℕ → List ℕ
counted None vs = vs
counted (Some q) vs = pick q.written (q.reading ∷ vs) vs

abbrev pub written_among : List (Option Quarter) → List ℕ
written_among [] = []
written_among (q ∷ qs) = counted q (written_among qs)

abbrev pub quarters_of : State → ℕ → Memory → List (Option Quarter)
quarters_of s h mem = quarters s mem (four_from (4 * h))

-- Hour summary: 9 (state), 8, 10, 5, 9 (word), then 18 when none of the four is written.
abbrev pub summary_refusals : State → ℕ → Memory → List Rule
summary_refusals s h mem =
    unfit (scan_of s) gives Refusal.OutOfRange ∷ not (lengths_fit s.terms mem) gives Refusal.OtherLengths
    ∷ at_work (scan_of s) gives Refusal.AtWork ∷ not (ltb h (s.terms.m / 4)) gives Refusal.NoSuchCell
    ∷ any_outside (quarters_of s h mem) gives Refusal.OutOfRange
    ∷ eqb (length (written_among (quarters_of s h mem))) 0 gives Refusal.NothingWritten ∷ []

unfoldable pub summary_of : State → ℕ → Memory → Result Hour Refusal
summary_of s h mem = orders Err (summary_refusals s h mem) (Ok (hour_of (written_among (quarters_of s h mem))))
