-- What functions inside the crate lean on; no statement cites it.
-- Assumes nothing.
use Rattle.std.specs.Prelude.{ℕ, ◌≡◌, Bool, true, ◌&&◌, Option, Some, Ok, ltb, leb}
use Rattle.numbers.specs.Numbers.{most_segments, most_steps, most_marks, pool_words}
use Rattle.numbers.specs.declared.Terms.{Terms}
use Rattle.lanes.specs.declared.Marking.{Marking}
use Rattle.lanes.specs.declared.Op.{Op}
use Rattle.lanes.specs.declared.Lane.{Lane}
use Rattle.steps.specs.declared.Change.{Change}
use Rattle.steps.specs.declared.Next.{Next}
use Rattle.steps.specs.declared.Turn.{Turn}
use Rattle.steps.specs.Changes.{lane_after, top_after}
use Rattle.acts.specs.declared.Acted.{Acted}
use Rattle.acts.specs.Calls.{advance, answer_of, numbers_fit}

-- What a step can put outside its range: marks in force, the pool's top, segments drawn, own steps, and a marking's place.
-- The rest it takes over from a lane in its ranges, or has just tested.
abbrev pub change_fits : Terms → Change → Bool
change_fits z Change.Nothing = true
change_fits z (Change.Reading i v) = true
change_fits z (Change.Link i w) = true
change_fits z (Change.Directory k w) = true
change_fits z (Change.Mark start n x) = true
change_fits z (Change.Marks n) = leb n (most_marks z.m)
change_fits z (Change.Top top n) = leb top (pool_words z.p z.m) && leb n most_segments

-- The place of the marking that a step of an operation goes on with: only after a tombstone is it another one.
abbrev pub marking_goes : Terms → Marking → Bool
marking_goes z (Marking.Draw stored link n) = true
marking_goes z (Marking.Enter stored start link n) = true
marking_goes z (Marking.Tombstone link n) = ltb n.0 (most_marks z.m)
marking_goes z (Marking.Mark link n) = true
marking_goes z (Marking.Force link n) = true
marking_goes z (Marking.Swap link n) = true
marking_goes z (Marking.TakeBack n) = true

abbrev pub op_goes : Terms → Op → Bool
op_goes z Op.Idle = true
op_goes z (Op.Read i c) = true
op_goes z (Op.Reading i) = true
op_goes z (Op.Asked i c) = true
op_goes z (Op.Store i v) = true
op_goes z (Op.Write i c) = true
op_goes z (Op.Marking i k) = marking_goes z k

abbrev pub next_fits : Terms → ℕ → Op → Next → Bool
next_fits z steps o (Next.Going u) = ltb steps most_steps && op_goes z o
next_fits z steps o (Next.Read v b) = true
next_fits z steps o Next.Written = true
next_fits z steps o (Next.Asked b) = true

abbrev pub new_fits : Terms → Lane → Change → Next → Bool
new_fits z l change next = change_fits z change && next_fits z l.steps l.op next

-- So for a turn of such a lane those tests come to all of them.
abbrev pub Told : Terms → ℕ → Lane → Option Turn → Type 0
Told z top l t = (u : Turn) → t ≡ Some u → new_fits z l u.change u.next ≡ numbers_fit z top l u.change u.next

abbrev pub moved_to : Lane → ℕ → Change → Next → Acted
moved_to l top change next = record { lane = advance next (lane_after change l); top = top_after change top; answer = Ok (answer_of l.steps next) }
