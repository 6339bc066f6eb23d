-- A grid at rest: no operation under way, and each cell's check run to its end at once.
-- Assumes nothing.
use Rattle.std.specs.Prelude.{ℕ, Bool, true, false, List, ltb, Option, None, Some}
use Rattle.numbers.specs.Numbers.{most_processes}
use Rattle.numbers.specs.declared.Cell.{Cell}
use Rattle.logic.specs.Below.{below}
use Rattle.logic.specs.Pick.{pick}
use Rattle.lanes.specs.declared.Check.TheVariants as Check
use Rattle.lanes.specs.declared.State.{State}
use Rattle.lanes.specs.Ranges.{lane_of, marks_of, idle, state_fits}
use Rattle.steps.specs.declared.Found.{Found}
use Rattle.steps.specs.declared.Next.{Next}
use Rattle.steps.specs.Memory.{Memory}
use Rattle.steps.specs.Steps.{check, not_written_read, written_read}
use Rattle.quiet.specs.declared.Quarter.{Quarter}
use Rattle.quiet.specs.declared.Scan.{Scan}

-- No operation is under way in any lane below p.
abbrev pub at_rest : State → Bool
at_rest s = below s.terms.p (λ (q : ℕ). idle (lane_of s q).op)

-- 9 (state) comes before 10.
abbrev pub scan_of : State → Scan
scan_of s = pick (state_fits s) (pick (at_rest s) Scan.AtRest Scan.AtWork) Scan.Unfit

-- The two tests of an order of refusals, which may have others between them.
abbrev pub unfit : Scan → Bool
unfit Scan.Unfit = true
unfit Scan.AtWork = false
unfit Scan.AtRest = false

abbrev pub at_work : Scan → Bool
at_work Scan.Unfit = false
at_work Scan.AtWork = true
at_work Scan.AtRest = false

-- The marks in force of process q; one that has no lane has none.
abbrev pub marks_at : State → ℕ → ℕ
marks_at s q = pick (ltb q most_processes) (marks_of s q) 0

-- One more step of a check that has not ended.
abbrev pub onward : State → Cell → List ℕ → List ℕ → List ℕ → Option Found → Option Found
onward s i links directory pool None = None
onward s i links directory pool (Some (Found.On c)) = check s.terms (marks_at s) links directory pool i c
onward s i links directory pool (Some (Found.NotWritten link)) = Some (Found.NotWritten link)
onward s i links directory pool (Some Found.Written) = (Some Found.Written)

-- The check of cell i, run to its end: four steps at the most.
unfoldable pub looked_at : State → Cell → List ℕ → List ℕ → List ℕ → Option Found
looked_at s i links directory pool =
    onward s i links directory pool
    (onward s i links directory pool (onward s i links directory pool (onward s i links directory pool (Some (Found.On Check.Link)))))

-- What a read answers is what is read of its cell; none where a word of its check lies outside its memory.
abbrev pub quarter_as : ℕ → Bool → Quarter
quarter_as v b = record { reading = v; written = b }

abbrev pub quarter_of : Next → Option Quarter
quarter_of (Next.Going o) = None
quarter_of (Next.Read v b) = Some (quarter_as v b)
quarter_of Next.Written = None
quarter_of (Next.Asked b) = None

-- The read of cell i, run to its end: the answers are the read's own. No check is still on after four steps.
abbrev pub reading_as : State → Cell → List ℕ → Option Found → Option Quarter
reading_as s i readings None = None
reading_as s i readings (Some (Found.On c)) = None
reading_as s i readings (Some (Found.NotWritten link)) = quarter_of (not_written_read s.terms i)
reading_as s i readings (Some Found.Written) = quarter_of (written_read s.terms readings i)

abbrev pub reading_at : State → Cell → Memory → Option Quarter
reading_at s i mem = reading_as s i mem.readings (looked_at s i mem.links mem.directory mem.pool)
