-- "Plausible and wrong": machines with the mistakes of document 01's list, each a small variant of the step list. (004's copying is
-- none of them: it needs arrays that move, which this state has not.)
-- Assumes nothing.
use Rattle.std.specs.Prelude.{ℕ, ◌+◌, ◌≡◌, refl, false, eqb, get_or, Option, None, Some}
use Rattle.logic.specs.Pick.{pick}
use Rattle.numbers.specs.Numbers.{link_of, offset_of}
use Rattle.numbers.specs.Cells.{mark_of, index_of}
use Rattle.steps.specs.Steps.{makes, goes, found, tombstone_first, marking_next, checked_turn, put_turn, marking_turn, op_turn}
use Rattle.acts.specs.Calls as Grid
use Rattle.acts.specs.Worlds.{Result, Machine, grid}
use Rattle.lanes.specs.Ranges.{lane_of, marks_of}
use Rattle.demands.specs.Types.{Cell, Place, Terms, Marking, Op, Lane, State, Memory, Found, Change, Next, Turn, Ask}

-- A step of another machine, as a result; a machine that opens and begins as the grid does.
abbrev pub resulted : Grid.Outcome → Result State
resulted o = record { state = o.stepped.state; answer = o.stepped.answer; memory = o.memory }

abbrev pub stepping : (State → ℕ → Memory → Grid.Outcome) → Machine State Ask
stepping f = record { opens = grid.opens; begin = grid.begin; step = λ s q mem. resulted (f s q mem) }

-- What a rule is told: the terms, the pool's top, the process, its lane, the marks in force of each process, and the memories.
abbrev pub Rules : Type 0 → Type 0
Rules A = Terms → ℕ → ℕ → Lane → (ℕ → ℕ) → Memory → A

-- A machine that takes its steps by another list; by ours it is the grid.
abbrev pub by : Rules (Op → Option Turn) → Machine State Ask
by turn = stepping (λ s q mem. Grid.step_by s q mem (turn s.terms s.top q (lane_of s q) (marks_of s) mem (lane_of s q).op))

pub by_ours : (s : State) (q : ℕ) (mem : Memory) → (by op_turn).step s q mem ≡ grid.step s q mem
by_ours s q mem = refl

abbrev pub ours : Rules (Cell → Marking → Option Turn)
ours z top q l in_force mem i k = marking_turn z top q l mem.links mem.directory mem.pool i k

-- the list with other rules for a write's check and for its marking
abbrev pub writing : Rules (Cell → Option Found → Option Turn) → Rules (Cell → Marking → Option Turn) → Rules (Op → Option Turn)
writing check rule z top q l in_force mem Op.Idle = op_turn z top q l in_force mem Op.Idle
writing check rule z top q l in_force mem (Op.Read i c) = op_turn z top q l in_force mem (Op.Read i c)
writing check rule z top q l in_force mem (Op.Reading i) = op_turn z top q l in_force mem (Op.Reading i)
writing check rule z top q l in_force mem (Op.Asked i c) = op_turn z top q l in_force mem (Op.Asked i c)
writing check rule z top q l in_force mem (Op.Store i v) = op_turn z top q l in_force mem (Op.Store i v)
writing check rule z top q l in_force mem (Op.Write i c) = check z top q l in_force mem i (found z top q l in_force mem i c)
writing check rule z top q l in_force mem (Op.Marking i k) = rule z top q l in_force mem i k

-- ---- 004, Remark 1: the link is swapped before the marks are in force

abbrev pub swap_first : Rules (Cell → Marking → Option Turn)
swap_first z top q l in_force mem i (Marking.Draw stored link n) = ours z top q l in_force mem i (Marking.Draw stored link n)
swap_first z top q l in_force mem i (Marking.Enter stored start link n) = ours z top q l in_force mem i (Marking.Enter stored start link n)
swap_first z top q l in_force mem i (Marking.Tombstone link n) = ours z top q l in_force mem i (Marking.Tombstone link n)
swap_first z top q l in_force mem i (Marking.Mark link n) = put_turn q mem.directory mem.pool i n (mark_of i) (Marking.Swap link n)
swap_first z top q l in_force mem i (Marking.Swap link n) =
    Some
    (pick (eqb (get_or mem.links (index_of z i) 0) link)
    (makes (Change.Link (index_of z i) (link_of q n.0)) (Next.Going (Op.Marking i (Marking.Force link n))))
    (makes Change.Nothing Next.Written))
swap_first z top q l in_force mem i (Marking.Force link n) = Some (makes (Change.Marks (n.0 + 1)) Next.Written)
swap_first z top q l in_force mem i (Marking.TakeBack n) = ours z top q l in_force mem i (Marking.TakeBack n)

abbrev pub swaps_first : Machine State Ask
swaps_first = by (writing (λ z top q l in_force mem. checked_turn q l) swap_first)

-- ---- 004, section 4.1: no tombstone

abbrev pub bare_turn : ℕ → Lane → Cell → Option Found → Option Turn
bare_turn q l i None = checked_turn q l i None
bare_turn q l i (Some (Found.On c)) = checked_turn q l i (Some (Found.On c))
bare_turn q l i (Some (Found.NotWritten link)) = Some (goes (Op.Marking i (marking_next l link (record { 0 = l.marks }))))
bare_turn q l i (Some Found.Written) = checked_turn q l i (Some Found.Written)

abbrev pub no_tombstone : Machine State Ask
no_tombstone = by (writing (λ z top q l in_force mem. bare_turn q l) ours)

-- ---- A segment drawn again after a take-back: a place that is its segment's first is taken for one whose segment is not drawn

abbrev pub again_at : ℕ → ℕ → Place → Marking
again_at q link n = pick (eqb (offset_of n.0) 0) (Marking.Draw false link n) (tombstone_first q link n)

abbrev pub again_turn : ℕ → Lane → Cell → Option Found → Option Turn
again_turn q l i None = checked_turn q l i None
again_turn q l i (Some (Found.On c)) = checked_turn q l i (Some (Found.On c))
again_turn q l i (Some (Found.NotWritten link)) = Some (goes (Op.Marking i (again_at q link (record { 0 = l.marks }))))
again_turn q l i (Some Found.Written) = checked_turn q l i (Some Found.Written)

abbrev pub draws_again : Machine State Ask
draws_again = by (writing (λ z top q l in_force mem. again_turn q l) ours)

-- ---- A link's process number used as an index unchecked: (a) takes every number that a link can hold for one of the grid's

abbrev pub any_process : Terms → Terms
any_process z = record { p = 16384; m = z.m; first = z.first; step = z.step }

abbrev pub unchecked : Machine State Ask
unchecked = by (λ z. op_turn (any_process z))
