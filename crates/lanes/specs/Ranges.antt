-- The range of every number of a state: what refusal 9 (state) looks at.
-- Assumes nothing.
use Rattle.std.specs.Prelude.{ℕ, Bool, true, false, ◌&&◌, ltb, leb, eqb, get_or}
use Rattle.logic.specs.Pick.{pick}
use Rattle.logic.specs.Below.{below}
use Rattle.numbers.specs.Numbers.{most_segments, most_steps, most_marks, pool_words, process_of, place_of}
use Rattle.numbers.specs.Cells.{processes_fit, cells_fit, cell_fits}
use Rattle.numbers.specs.declared.Cell.{Cell}
use Rattle.numbers.specs.declared.Place.{Place}
use Rattle.numbers.specs.declared.Terms.{Terms}
use Rattle.lanes.specs.declared.Check.{Check}
use Rattle.lanes.specs.declared.Marking.{Marking}
use Rattle.lanes.specs.declared.Op.{Op}
use Rattle.lanes.specs.declared.Lane.{Lane}
use Rattle.lanes.specs.declared.State.{State}

-- A lane with no operation under way, and every count 0.
abbrev pub rest : Lane
rest = record { marks = 0; drawn = 0; steps = 0; op = Op.Idle }

-- Process q's lane, and its marks in force.
abbrev pub lane_of : State → ℕ → Lane
lane_of s q = get_or s.lanes q rest

abbrev pub marks_of : State → ℕ → ℕ
marks_of s q = (lane_of s q).marks

-- No operation under way.
abbrev pub idle : Op → Bool
idle Op.Idle = true
idle (Op.Read i c) = false
idle (Op.Reading i) = false
idle (Op.Asked i c) = false
idle (Op.Store i v) = false
idle (Op.Write i c) = false
idle (Op.Marking i k) = false

-- The cell of an operation under way.
abbrev pub cell_in : Op → Cell
cell_in Op.Idle = record { 0 = 0 }
cell_in (Op.Read i c) = i
cell_in (Op.Reading i) = i
cell_in (Op.Asked i c) = i
cell_in (Op.Store i v) = i
cell_in (Op.Write i c) = i
cell_in (Op.Marking i k) = i

-- The place of a marking. The link that it remembers is any 64-bit value.
abbrev pub place_in : Marking → Place
place_in (Marking.Draw stored link n) = n
place_in (Marking.Enter stored start link n) = n
place_in (Marking.Tombstone link n) = n
place_in (Marking.Mark link n) = n
place_in (Marking.Force link n) = n
place_in (Marking.Swap link n) = n
place_in (Marking.TakeBack n) = n

-- An operation's place: at most 2m + 1.
abbrev pub place_fits : Terms → Place → Bool
place_fits z n = leb n.0 (most_marks z.m)

-- A link that (b) has let through names a process below p, and such a place.
abbrev pub link_fits : Terms → ℕ → Bool
link_fits z link = ltb (process_of link) z.p && leb (place_of link) (most_marks z.m)

-- A link that only (a) has seen names a process below p, and any place.
abbrev pub check_fits : Terms → Check → Bool
check_fits z Check.Link = true
check_fits z (Check.Marks link) = ltb (process_of link) z.p
check_fits z (Check.Directory link) = link_fits z link
check_fits z (Check.Mark start link) = link_fits z link

-- What an operation holds beside its cell.
abbrev pub rest_fits : Terms → Op → Bool
rest_fits z Op.Idle = true
rest_fits z (Op.Read i c) = check_fits z c
rest_fits z (Op.Reading i) = true
rest_fits z (Op.Asked i c) = check_fits z c
rest_fits z (Op.Store i v) = true
rest_fits z (Op.Write i c) = check_fits z c
rest_fits z (Op.Marking i k) = place_fits z (place_in k)

-- Own steps so far: 0 to 10; 0 with no operation under way. The cell of one under way is below m.
abbrev pub op_fits : Terms → ℕ → Op → Bool
op_fits z steps o = pick (idle o) (eqb steps 0) (leb steps most_steps && (cell_fits z (cell_in o) && rest_fits z o))

-- Marks in force 0 to 2m + 1, segments drawn 0 to 17.
abbrev pub lane_fits : Terms → Lane → Bool
lane_fits z l = leb l.marks (most_marks z.m) && (leb l.drawn most_segments && op_fits z l.steps l.op)

-- p, m and the pool's top.
abbrev pub sizes_fit : Terms → ℕ → Bool
sizes_fit z top = processes_fit z.p && (cells_fit z.m && leb top (pool_words z.p z.m))

-- Lanes at or above p are not looked at.
abbrev pub state_fits : State → Bool
state_fits s = sizes_fit s.terms s.top && below s.terms.p (λ (q : ℕ). lane_fits s.terms (lane_of s q))
