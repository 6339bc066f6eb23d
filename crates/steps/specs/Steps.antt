-- The step list of document 01, "The steps", in its order: the one shared word that each step changes, and what comes next.
-- Assumes nothing.
use Rattle.std.specs.Prelude.{ℕ, ◌+◌, Bool, true, false, List, Option, None, Some, ltb, eqb, get_or, length}
use Rattle.logic.specs.Pick.{pick}
use Rattle.numbers.specs.Numbers.{tombstone, segment_of, offset_of, size_of, directory_word, link_of, process_of, place_of}
use Rattle.numbers.specs.Cells.{mark_of, index_of, fill_at}
use Rattle.numbers.specs.declared.Cell.{Cell}
use Rattle.numbers.specs.declared.Place.{Place}
use Rattle.numbers.specs.declared.Terms.{Terms}
use Rattle.lanes.specs.declared.Check.{Check}
use Rattle.lanes.specs.declared.Marking.{Marking}
use Rattle.lanes.specs.declared.Op.{Op}
use Rattle.lanes.specs.declared.Lane.{Lane}
use Rattle.steps.specs.declared.Found.{Found}
use Rattle.steps.specs.declared.Change.{Change}
use Rattle.steps.specs.declared.Next.{Next}
use Rattle.steps.specs.declared.Turn.{Turn}
use Rattle.steps.specs.Memory.{Memory}

-- One step: the change, and what comes next.
abbrev pub makes : Change → Next → Turn
makes change next = record { change = change; next = next }

-- A step that changes no word, and goes on or ends; one that changes a word, and goes on with a marking.
abbrev pub goes : Op → Turn
goes o = makes Change.Nothing (Next.Going o)

abbrev pub ends : Next → Turn
ends answer = makes Change.Nothing answer

abbrev pub marks : Change → Cell → Marking → Turn
marks change i k = makes change (Next.Going (Op.Marking i k))

-- Where the segment of a place starts, as the directory has it; and the pool's word at the place, none where it lies outside.
abbrev pub start_of : List ℕ → ℕ → ℕ → ℕ
start_of directory q n = get_or directory (directory_word q (segment_of n)) 0

abbrev pub pool_word : List ℕ → ℕ → ℕ → Option ℕ
pool_word pool start n = pick (ltb (start + offset_of n) (length pool)) (Some (get_or pool (start + offset_of n) 0)) None

-- CHECK OF CELL i. A failing check ends at the step that shows it; none is shown where the mark's word lies outside the pool.
abbrev pub check_link : ℕ → ℕ → Found
check_link p link = pick (ltb (process_of link) p) (Found.On (Check.Marks link)) (Found.NotWritten link)

abbrev pub check_marks : ℕ → ℕ → Found
check_marks in_force link = pick (ltb (place_of link) in_force) (Found.On (Check.Directory link)) (Found.NotWritten link)

abbrev pub check_mark : ℕ → ℕ → Option ℕ → Option Found
check_mark own link None = None
check_mark own link (Some mark) = Some (pick (eqb mark own) Found.Written (Found.NotWritten link))

-- `in_force`: the marks in force of each process.
module _ (z : Terms) (in_force : ℕ → ℕ) (links directory pool : List ℕ) (i : Cell) where
  abbrev pub check : Check → Option Found
  -- (a) Read its link; a process number of p or more means not written.
  check Check.Link = Some (check_link z.p (get_or links (index_of z i) 0))
  -- (b) Read that process's marks in force; a place not below it means not written.
  check (Check.Marks link) = Some (check_marks (in_force (process_of link)) link)
  -- (c) Read the directory word.
  check (Check.Directory link) = Some (Found.On (Check.Mark (start_of directory (process_of link) (place_of link)) link))
  -- (d) Read the mark; written exactly if it equals i.
  check (Check.Mark start link) = check_mark (mark_of i) link (pool_word pool start (place_of link))

-- READ: check; if not written, the answer is f(i), given at that same step; otherwise one more step reads the reading. The
-- answer also says which of the two it was.
abbrev pub not_written_read : Terms → Cell → Next
not_written_read z i = Next.Read (fill_at z i) false

abbrev pub written_read : Terms → List ℕ → Cell → Next
written_read z readings i = Next.Read (get_or readings (index_of z i) 0) true

abbrev pub read_turn : Terms → Cell → Option Found → Option Turn
read_turn z i None = None
read_turn z i (Some (Found.On c)) = Some (goes (Op.Read i c))
read_turn z i (Some (Found.NotWritten link)) = Some (ends (not_written_read z i))
read_turn z i (Some Found.Written) = Some (goes (Op.Reading i))

-- ASKED: the check alone.
abbrev pub asked_turn : Cell → Option Found → Option Turn
asked_turn i None = None
asked_turn i (Some (Found.On c)) = Some (goes (Op.Asked i c))
asked_turn i (Some (Found.NotWritten link)) = Some (ends (Next.Asked false))
asked_turn i (Some Found.Written) = Some (ends (Next.Asked true))

-- WRITE: what rules 3 and 4 ask before they take a step.
-- 4. If the remembered link is exactly (this process, n): the tombstone; else 5.
abbrev pub tombstone_first : ℕ → ℕ → Place → Marking
tombstone_first q link n = pick (eqb link (link_of q n.0)) (Marking.Tombstone link n) (Marking.Mark link n)

-- 3. Let n be the lane's marks in force. If place n's segment is not drawn, it is drawn first.
abbrev pub marking_at : ℕ → Lane → ℕ → Marking
marking_at q l link =
    pick (ltb (segment_of l.marks) l.drawn)
    (tombstone_first q link (record { 0 = l.marks }))
    (Marking.Draw false link (record { 0 = l.marks }))

-- 4. After the tombstone: go on with the next place, drawing its segment if it is not drawn.
abbrev pub marking_next : Lane → ℕ → Place → Marking
marking_next l link n = pick (ltb (segment_of n.0) l.drawn) (Marking.Mark link n) (Marking.Draw true link n)

-- After a draw: the tombstone, unless it is already stored.
abbrev pub entered : ℕ → Bool → ℕ → Place → Marking
entered q stored link n = pick stored (Marking.Mark link n) (tombstone_first q link n)

-- Its steps, by their rules.
abbrev pub checked_turn : ℕ → Lane → Cell → Option Found → Option Turn
checked_turn q l i None = None
checked_turn q l i (Some (Found.On c)) = Some (goes (Op.Write i c))
checked_turn q l i (Some (Found.NotWritten link)) = Some (goes (Op.Marking i (marking_at q l link)))
checked_turn q l i (Some Found.Written) = Some (ends Next.Written)

abbrev pub draw_turn : ℕ → Cell → Bool → ℕ → Place → Turn
draw_turn top i stored link n = marks (Change.Top (top + size_of (segment_of n.0)) (segment_of n.0 + 1)) i (Marking.Enter stored top link n)

abbrev pub enter_turn : ℕ → Cell → Bool → ℕ → ℕ → Place → Turn
enter_turn q i stored start link n = marks (Change.Directory (directory_word q (segment_of n.0)) start) i (entered q stored link n)

-- A word stored at the own place n, and then the marking k.
abbrev pub stored : ℕ → Cell → Place → ℕ → Marking → Option ℕ → Option Turn
stored start i n mark k None = None
stored start i n mark k (Some old) = Some (marks (Change.Mark start n mark) i k)

abbrev pub put_turn : ℕ → List ℕ → List ℕ → Cell → Place → ℕ → Marking → Option Turn
put_turn q directory pool i n mark k = stored (start_of directory q n.0) i n mark k (pool_word pool (start_of directory q n.0) n.0)

abbrev pub swap_turn : Terms → ℕ → List ℕ → Cell → ℕ → Place → Turn
swap_turn z q links i link n =
    pick (eqb (get_or links (index_of z i) 0) link)
    (makes (Change.Link (index_of z i) (link_of q n.0)) Next.Written)
    (goes (Op.Marking i (Marking.TakeBack n)))

-- Rules 3 to 8 of process q, whose lane is l.
module _ (z : Terms) (top q : ℕ) (l : Lane) (links directory pool : List ℕ) (i : Cell) where
  abbrev pub marking_turn : Marking → Option Turn
  -- 3. One step takes the segment's size from the pool's top, and for segment s the count of drawn segments becomes s + 1;
  marking_turn (Marking.Draw stored link n) = Some (draw_turn top i stored link n)
  -- one step stores its start in the directory.
  marking_turn (Marking.Enter stored start link n) = Some (enter_turn q i stored start link n)
  -- 4. Store the tombstone at place n, then go on with n + 1.
  marking_turn (Marking.Tombstone link n) = put_turn q directory pool i n tombstone (marking_next l link (record { 0 = n.0 + 1 }))
  -- 5. Store i at the place.
  marking_turn (Marking.Mark link n) = put_turn q directory pool i n (mark_of i) (Marking.Force link n)
  -- 6. Set marks in force to the place plus 1.
  marking_turn (Marking.Force link n) = Some (marks (Change.Marks (n.0 + 1)) i (Marking.Swap link n))
  -- 7. Compare and swap: if the link still equals the remembered one, it becomes (this process, place) and the write ends.
  marking_turn (Marking.Swap link n) = Some (swap_turn z q links i link n)
  -- 8. Otherwise set marks in force back to the place; the write ends.
  marking_turn (Marking.TakeBack n) = Some (makes (Change.Marks n.0) Next.Written)

-- One step of an operation of process q, whose lane is l; none where the word to be touched lies outside its memory.
module _ (z : Terms) (top q : ℕ) (l : Lane) (in_force : ℕ → ℕ) (mem : Memory) where
  abbrev pub found : Cell → Check → Option Found
  found i c = check z in_force mem.links mem.directory mem.pool i c

  abbrev pub op_turn : Op → Option Turn
  -- A lane at rest has none: refusal 7 comes before.
  op_turn Op.Idle = None
  op_turn (Op.Read i c) = read_turn z i (found i c)
  op_turn (Op.Reading i) = Some (ends (written_read z mem.readings i))
  op_turn (Op.Asked i c) = asked_turn i (found i c)
  -- 1. Store the reading.
  op_turn (Op.Store i v) = Some (makes (Change.Reading (index_of z i) v) (Next.Going (Op.Write i Check.Link)))
  -- 2. Check; the link read in (a) is remembered. If written, the write ends.
  op_turn (Op.Write i c) = checked_turn q l i (found i c)
  -- 3. to 8.
  op_turn (Op.Marking i k) = marking_turn z top q l mem.links mem.directory mem.pool i k

  abbrev pub turn_of : Option Turn
  turn_of = op_turn l.op
