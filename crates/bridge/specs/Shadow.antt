-- The theory's run that stands behind a state, the lent memories and the book.
-- Assumes nothing.
use Rattle.std.specs.Prelude.{ℕ, suc, ◌+◌, ◌^◌, ◌≤◌, ◌<◌, ◌≡◌, List, get_or}
use Rattle.std.proofs.Math.Decide.{dec_lt}
use Rattle.std.proofs.Common.{add-one, arith, pow_mono}
use Rattle.numbers.specs.Numbers.{most_segments, segment_of, offset_of, directory_word, process_of, place_of, fill_of, tombstone}
use Rattle.numbers.proofs.Laws.{segment_bounds, place_at}
use Rattle.lanes.specs.Ranges.{lane_of}
use Rattle.theory.specs.Interface as Theory
use Rattle.numbers.specs.Cells.{mark_of, cell_at}
use Rattle.demands.specs.Types.{Terms, Marking, Check, Op, State, Memory, Change, Next}
use Rattle.demands.specs.Book.{Doing, nothing, busy, Book}

-- ---- the grid

pub segment_low : (n : ℕ) → 2 ^ suc (segment_of n) ≤ n + 2
segment_low n = rw (← add-one (segment_of n)) (segment_bounds n).0

pub segment_high : (n : ℕ) → n + 2 < 2 ^ suc (suc (segment_of n))
segment_high n = let e : suc (suc (segment_of n)) ≡ segment_of n + 2 = omega arith in rw e (segment_bounds n).1

pub segment_at : (n : ℕ) → offset_of n + 2 ^ suc (segment_of n) ≡ n + 2
segment_at n =
    let one : 1 ≤ segment_of n + 1 = omega arith in
    rw (← add-one (segment_of n)) (omega (arith, place_at n, segment_bounds n, pow_mono one))

abbrev pub shape : Theory.Shape
shape = record { seg = segment_of; off = offset_of; segments = most_segments; low = segment_low; high = segment_high; at = segment_at }

-- A cell is known by its index.
abbrev pub grid_of : Terms → Theory.Grid
grid_of z =
    record { p = z.p; m = z.m; f = fill_of z.first z.step; code = λ i. mark_of (cell_at z i); grave = tombstone; shape = shape }

-- ---- stages

abbrev pub pair_of : ℕ → Theory.Link
pair_of w = Theory.mk (process_of w) (place_of w)

abbrev pub seen_of : ℕ → Theory.Seen
seen_of w = record { at = pair_of w }

abbrev pub check_at : Check → Theory.Stage
check_at Check.Link = Theory.check_link
check_at (Check.Marks w) = Theory.check_marks (seen_of w)
check_at (Check.Directory w) = Theory.check_directory (seen_of w)
check_at (Check.Mark start w) = Theory.check_mark (seen_of w)

abbrev pub mark_at : Marking → Theory.Marking
mark_at (Marking.Draw stored w n) = Theory.draw stored (seen_of w) n.0
mark_at (Marking.Enter stored start w n) = Theory.enter stored (seen_of w) n.0
mark_at (Marking.Tombstone w n) = Theory.tombstone (seen_of w) n.0
mark_at (Marking.Mark w n) = Theory.mark (seen_of w) n.0
mark_at (Marking.Force w n) = Theory.force (seen_of w) n.0
mark_at (Marking.Swap w n) = Theory.swap (seen_of w) n.0
mark_at (Marking.TakeBack n) = Theory.take_back n.0

abbrev pub stage_of : Op → Theory.Stage
stage_of Op.Idle = Theory.store
stage_of (Op.Read i c) = check_at c
stage_of (Op.Reading i) = Theory.fetch
stage_of (Op.Asked i c) = check_at c
stage_of (Op.Store i v) = Theory.store
stage_of (Op.Write i c) = check_at c
stage_of (Op.Marking i k) = Theory.marking (mark_at k)

-- The operation, its cell and the value written come from the book, its stage from the lane.
abbrev pub lane_for : Doing → Op → Theory.Lane
lane_for nothing op = Theory.idle
lane_for (busy began o i taken) op = Theory.busy o i (stage_of op)

abbrev pub since_of : Doing → ℕ
since_of nothing = 0
since_of (busy began o i taken) = began

abbrev pub taken_of : Doing → ℕ
taken_of nothing = 0
taken_of (busy began o i taken) = taken

-- ---- what a step changes, and what comes next

abbrev pub change_of : Change → Theory.Change
change_of Change.Nothing = Theory.keep
change_of (Change.Reading i v) = Theory.set_reading i v
change_of (Change.Link i w) = Theory.set_link i (pair_of w)
change_of (Change.Directory k start) = Theory.keep
change_of (Change.Mark start n mark) = Theory.set_mark n.0 mark
change_of (Change.Marks n) = Theory.set_in_force n
change_of (Change.Top top drawn) = Theory.set_drawn drawn

abbrev pub next_of : Next → Theory.Next
next_of (Next.Going o) = Theory.go (stage_of o)
next_of (Next.Read v t) = Theory.end (Theory.got v t)
next_of Next.Written = Theory.end Theory.done
next_of (Next.Asked t) = Theory.end (Theory.told t)

-- ---- the run; the marks by lane and place, and the starts that processes hold, are the proof's own

abbrev pub mem_of : State → Memory → (ℕ → ℕ → ℕ) → Theory.Mem
mem_of s mem marks =
    record {
      reading = λ i. get_or mem.readings i 0;
      link = λ i. pair_of (get_or mem.links i 0);
      in_force = λ q. (lane_of s q).marks;
      drawn = λ q. (lane_of s q).drawn;
      marks = marks;
    }

-- a lane has no segment at or beyond the last
abbrev pub starts_in : List ℕ → ℕ → ℕ → ℕ
starts_in directory q s = Theory.pick (dec_lt s most_segments) (get_or directory (directory_word q s) 0) 0

abbrev pub words_of : ℕ → Memory → (ℕ → ℕ) → Theory.Words
words_of top mem held = record { directory = starts_in mem.directory; pool = λ k. get_or mem.pool k 0; top = top; held = held }

abbrev pub watch_of : State → Memory → Book → (ℕ → ℕ → ℕ) → Theory.Watch
watch_of s mem b marks =
    record {
      mem = mem_of s mem marks;
      lane = λ q. lane_for (b.doing q) (lane_of s q).op;
      now = b.now;
      since = λ q. since_of (b.doing q);
      ended = b.ended;
    }

abbrev pub shadow : State → Memory → Book → (ℕ → ℕ → ℕ) → (ℕ → ℕ) → Theory.Run
shadow s mem b marks held =
    record {
      watch = watch_of s mem b marks;
      words = words_of s.top mem held;
      tally = record { cells = b.cells; procs = b.procs };
      taken = λ q. taken_of (b.doing q);
    }
