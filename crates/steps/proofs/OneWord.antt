-- A turn changes at most the one shared word that it touches: every other word stays.
-- Assumes nothing.
use Rattle.std.specs.Prelude.{ℕ, ◌+◌, ◌≡◌, refl, ◌≢◌, Bool, true, false, Option, None, Some, eqb, get_or}
use Rattle.std.proofs.Common.{ap, arith, get_or-set_other}
use Rattle.logic.specs.Pick.{pick}
use Rattle.numbers.specs.Numbers.{offset_of}
use Rattle.numbers.specs.Cells.{index_of}
use Rattle.numbers.specs.declared.Cell.{Cell}
use Rattle.numbers.specs.declared.Place.{Place}
use Rattle.numbers.specs.declared.Terms.{Terms}
use Rattle.lanes.specs.declared.Marking.{Marking}
use Rattle.lanes.specs.declared.Op.{Op}
use Rattle.lanes.specs.declared.Lane.{Lane}
use Rattle.steps.specs.declared.Word.{Word}
use Rattle.steps.specs.declared.Change.{Change}
use Rattle.steps.specs.declared.Next.{Next}
use Rattle.steps.specs.declared.Found.{Found}
use Rattle.steps.specs.declared.Turn.{Turn}
use Rattle.steps.specs.Memory.{Memory}
use Rattle.steps.specs.Steps as Steps
use Rattle.steps.specs.Changes.{lane_after, top_after, memory_after}
use Rattle.steps.specs.Touched.{held_in, touched_marking, touched}

-- A change is to this word, or to none.
abbrev pub Stores : ℕ → Change → Word → Type 0
Stores q Change.Nothing w = Unit {0}
Stores q (Change.Reading i v) w = w ≡ Word.Reading i
Stores q (Change.Link i x) w = w ≡ Word.Link i
Stores q (Change.Directory k x) w = w ≡ Word.Directory k
Stores q (Change.Mark start n x) w = w ≡ Word.Pool (start + offset_of n.0)
Stores q (Change.Marks n) w = w ≡ Word.Marks q
Stores q (Change.Top t n) w = w ≡ Word.Top

-- ---- of a change every other word stays

-- `marks` and `marks'`: the marks in force before and after, of the process's own lane l and of the others.
module _ (q top : ℕ) (l : Lane) (mem : Memory) (marks marks' : ℕ → ℕ) where
  abbrev Others : Change → Word → Type 0
  Others ch one =
      ((r : ℕ) → r ≢ q → marks' r ≡ marks r) → ((lane_after ch l).marks ≡ l.marks → (r : ℕ) → marks' r ≡ marks r)
      → (w : Word) → w ≢ one → held_in marks' (top_after ch top) (memory_after ch mem) w ≡ held_in marks top mem w

  nothing_else : (one : Word) → Others Change.Nothing one
  nothing_else one others keeps (Word.Reading j) h = refl
  nothing_else one others keeps (Word.Link j) h = refl
  nothing_else one others keeps (Word.Directory j) h = refl
  nothing_else one others keeps (Word.Pool j) h = refl
  nothing_else one others keeps (Word.Marks r) h = keeps refl r
  nothing_else one others keeps Word.Top h = refl

  reading_only : (i v : ℕ) → Others (Change.Reading i v) (Word.Reading i)
  reading_only i v others keeps (Word.Reading j) h = get_or-set_other mem.readings i j v 0 (λ e. h (ap Word.Reading e))
  reading_only i v others keeps (Word.Link j) h = refl
  reading_only i v others keeps (Word.Directory j) h = refl
  reading_only i v others keeps (Word.Pool j) h = refl
  reading_only i v others keeps (Word.Marks r) h = keeps refl r
  reading_only i v others keeps Word.Top h = refl

  link_only : (i x : ℕ) → Others (Change.Link i x) (Word.Link i)
  link_only i x others keeps (Word.Reading j) h = refl
  link_only i x others keeps (Word.Link j) h = get_or-set_other mem.links i j x 0 (λ e. h (ap Word.Link e))
  link_only i x others keeps (Word.Directory j) h = refl
  link_only i x others keeps (Word.Pool j) h = refl
  link_only i x others keeps (Word.Marks r) h = keeps refl r
  link_only i x others keeps Word.Top h = refl

  directory_only : (k x : ℕ) → Others (Change.Directory k x) (Word.Directory k)
  directory_only k x others keeps (Word.Reading j) h = refl
  directory_only k x others keeps (Word.Link j) h = refl
  directory_only k x others keeps (Word.Directory j) h = get_or-set_other mem.directory k j x 0 (λ e. h (ap Word.Directory e))
  directory_only k x others keeps (Word.Pool j) h = refl
  directory_only k x others keeps (Word.Marks r) h = keeps refl r
  directory_only k x others keeps Word.Top h = refl

  pool_only : (start : ℕ) (n : Place) (x : ℕ) → Others (Change.Mark start n x) (Word.Pool (start + offset_of n.0))
  pool_only start n x others keeps (Word.Reading j) h = refl
  pool_only start n x others keeps (Word.Link j) h = refl
  pool_only start n x others keeps (Word.Directory j) h = refl
  pool_only start n x others keeps (Word.Pool j) h = get_or-set_other mem.pool (start + offset_of n.0) j x 0 (λ e. h (ap Word.Pool e))
  pool_only start n x others keeps (Word.Marks r) h = keeps refl r
  pool_only start n x others keeps Word.Top h = refl

  marks_only : (n : ℕ) → Others (Change.Marks n) (Word.Marks q)
  marks_only n others keeps (Word.Reading j) h = refl
  marks_only n others keeps (Word.Link j) h = refl
  marks_only n others keeps (Word.Directory j) h = refl
  marks_only n others keeps (Word.Pool j) h = refl
  marks_only n others keeps (Word.Marks r) h = others r (λ e. h (ap Word.Marks e))
  marks_only n others keeps Word.Top h = refl

  top_only : (t n : ℕ) → Others (Change.Top t n) Word.Top
  top_only t n others keeps (Word.Reading j) h = refl
  top_only t n others keeps (Word.Link j) h = refl
  top_only t n others keeps (Word.Directory j) h = refl
  top_only t n others keeps (Word.Pool j) h = refl
  top_only t n others keeps (Word.Marks r) h = keeps refl r
  top_only t n others keeps Word.Top h = absurd (h refl)

  pub others_stay : (ch : Change) (w : Word) → Stores q ch w → Others ch w
  others_stay Change.Nothing w e = nothing_else w
  others_stay (Change.Reading i v) w e = rw e (reading_only i v)
  others_stay (Change.Link i x) w e = rw e (link_only i x)
  others_stay (Change.Directory k x) w e = rw e (directory_only k x)
  others_stay (Change.Mark start n x) w e = rw e (pool_only start n x)
  others_stay (Change.Marks n) w e = rw e (marks_only n)
  others_stay (Change.Top t n) w e = rw e (top_only t n)

-- With the pool's top alone goes the count of drawn segments.
pub drawn_stays : (q : ℕ) (l : Lane) (ch : Change) (w : Word) → Stores q ch w → w ≢ Word.Top → (lane_after ch l).drawn ≡ l.drawn
drawn_stays q l Change.Nothing w e h = refl
drawn_stays q l (Change.Reading i v) w e h = refl
drawn_stays q l (Change.Link i x) w e h = refl
drawn_stays q l (Change.Directory k x) w e h = refl
drawn_stays q l (Change.Mark start n x) w e h = refl
drawn_stays q l (Change.Marks n) w e h = refl
drawn_stays q l (Change.Top t n) w e h = absurd (h e)

-- ---- the change of a turn is to the word that it touches

module _ (z : Terms) (top q : ℕ) (l : Lane) (in_force : ℕ → ℕ) (mem : Memory) (ch : Change) (nx : Next) where
  abbrev Turns : Option Turn → Type 0
  Turns t = t ≡ Some (Steps.makes ch nx)

  none : {A : Type 0} → ◌≡◌ {A = ℕ} 0 1 → A
  none h = absurd (omega arith)

  this : (w : Word) (d : Change) (m : Next) → Stores q d w → Turns (Some (Steps.makes d m)) → Stores q ch w
  this w d m h e =
      let g : Steps.makes d m ≡ Steps.makes ch nx = cc in
      let f : d ≡ ch = ap (λ (t : Turn). t.change) g in
      rw (← f) h

  reads : (w : Word) (i : Cell) (f : Option Found) → Turns (Steps.read_turn z i f) → Stores q ch w
  reads w i None e = none cc
  reads w i (Some (Found.On c)) e = this w Change.Nothing _ tt e
  reads w i (Some (Found.NotWritten x)) e = this w Change.Nothing _ tt e
  reads w i (Some Found.Written) e = this w Change.Nothing _ tt e

  asks : (w : Word) (i : Cell) (f : Option Found) → Turns (Steps.asked_turn i f) → Stores q ch w
  asks w i None e = none cc
  asks w i (Some (Found.On c)) e = this w Change.Nothing _ tt e
  asks w i (Some (Found.NotWritten x)) e = this w Change.Nothing _ tt e
  asks w i (Some Found.Written) e = this w Change.Nothing _ tt e

  checks : (w : Word) (i : Cell) (f : Option Found) → Turns (Steps.checked_turn q l i f) → Stores q ch w
  checks w i None e = none cc
  checks w i (Some (Found.On c)) e = this w Change.Nothing _ tt e
  checks w i (Some (Found.NotWritten x)) e = this w Change.Nothing _ tt e
  checks w i (Some Found.Written) e = this w Change.Nothing _ tt e

  puts : (start : ℕ) (i : Cell) (n : Place) (mark : ℕ) (k : Marking) (g : Option ℕ) → Turns (Steps.stored start i n mark k g)
      → Stores q ch (Word.Pool (start + offset_of n.0))
  puts start i n mark k None e = none cc
  puts start i n mark k (Some old) e = this _ (Change.Mark start n mark) _ refl e

  swaps : (w : Word) (b : Bool) (d : Change) (o : Op) → Turns (Some (pick b (Steps.makes d Next.Written) (Steps.goes o))) → Stores q d w → Stores q ch w
  swaps w true d o e h = this w d _ h e
  swaps w false d o e h = this w Change.Nothing _ tt e

  markings : (i : Cell) (k : Marking) → Turns (Steps.marking_turn z top q l mem.links mem.directory mem.pool i k)
      → Stores q ch (touched_marking z q mem.directory i k)
  markings i (Marking.Draw b w n) e = this _ _ _ refl e
  markings i (Marking.Enter b start w n) e = this _ _ _ refl e
  markings i (Marking.Tombstone w n) e = puts _ i n _ _ (Steps.pool_word mem.pool (Steps.start_of mem.directory q n.0) n.0) e
  markings i (Marking.Mark w n) e = puts _ i n _ _ (Steps.pool_word mem.pool (Steps.start_of mem.directory q n.0) n.0) e
  markings i (Marking.Force w n) e = this _ _ _ refl e
  markings i (Marking.Swap w n) e = swaps _ (eqb (get_or mem.links (index_of z i) 0) w) _ _ e refl
  markings i (Marking.TakeBack n) e = this _ _ _ refl e

  stores : (o : Op) → Turns (Steps.op_turn z top q l in_force mem o) → Stores q ch (touched z q mem.directory o)
  stores Op.Idle e = none cc
  stores (Op.Read i c) e = reads _ i (Steps.found z top q l in_force mem i c) e
  stores (Op.Reading i) e = this _ Change.Nothing _ tt e
  stores (Op.Asked i c) e = asks _ i (Steps.found z top q l in_force mem i c) e
  stores (Op.Store i v) e = this _ _ _ refl e
  stores (Op.Write i c) e = checks _ i (Steps.found z top q l in_force mem i c) e
  stores (Op.Marking i k) e = markings i k e

  pub turn_stores : Turns (Steps.turn_of z top q l in_force mem) → Stores q ch (touched z q mem.directory l.op)
  turn_stores e = stores l.op e
