-- What a step leaves of its lane's ranges: only the numbers that `new_fits` tests can leave theirs.
-- Assumes nothing.
use mathlib.Core.Path.{◌≡◌, refl, sym, ap, ◌∙◌}
use mathlib.Core.Bool.{Bool, true, false, ◌&&◌}
use mathlib.Core.List.{List}
use Prim.Native.Nat.{ℕ, ◌+◌, ◌≤◌}
use native.Mathlib.Omega.{arith}
use lib.Dec.{ltb, leb, eqb}
use lib.ListN.{get_or}
use borrow.Author.Tests.{le-leb, lt-leb, ltb-true, ltb-false}
use Rattle.numbers.specs.Numbers.{segment_of, most_segments, most_steps, most_marks, pool_words, process_of, place_of, link_of}
use Rattle.numbers.specs.declared.Cell.{Cell}
use Rattle.numbers.specs.declared.Place.{Place}
use Rattle.std.proofs.Math.Bool.{and_assoc}
use Rattle.logic.specs.Pick.{pick}
use Rattle.numbers.specs.Cells.{cell_fits, mark_of, index_of}
use Rattle.numbers.specs.declared.Terms.{Terms}
use Rattle.lanes.specs.declared.Marking.{Marking}
use Rattle.steps.specs.Inner.{handed}
use Rattle.lanes.specs.declared.Check.{Check}
use Rattle.lanes.specs.declared.Op.{Op}
use Rattle.lanes.specs.declared.Lane.{Lane}
use Rattle.lanes.specs.Ranges.{idle, cell_in, place_in, place_fits, check_fits, rest_fits, op_fits, lane_fits, sizes_fit}
use Rattle.lanes.specs.Laws.{sized, lane_ok, cell_fits_lem, rest_fits_lem}
use Rattle.steps.specs.declared.Change.{Change}
use Rattle.steps.specs.declared.Next.{Next}
use Rattle.steps.specs.declared.Found.{Found}
use Rattle.std.specs.Prelude.{Option, None, Some}
use Rattle.steps.specs.declared.Turn.{Turn}
use Rattle.steps.specs.Memory.{Memory}
use Rattle.steps.specs.Steps as Steps
use Rattle.steps.specs.Changes.{lane_after, top_after}
use Rattle.steps.specs.ChangeLaws.{same_steps}
use Rattle.acts.specs.Calls.{numbers_fit}
use Rattle.judged.specs.Inner.{change_fits, marking_goes, op_goes, new_fits, Told}

-- ---- what a check goes on with is in its ranges

abbrev Okay : Terms → Option Found → Type 0
Okay z None = Unit {0}
Okay z (Some (Found.On c)) = check_fits z c ≡ true
Okay z (Some (Found.NotWritten link)) = Unit {0}
Okay z (Some Found.Written) = Unit {0}

module _ (z : Terms) (seen : ℕ) (low : seen ≤ most_marks z.m) where
  found_ok : (links directory pool : List ℕ) (i : Cell) (c : Check) → check_fits z c ≡ true
      → Okay z (Steps.check z (handed seen) links directory pool i c)
  unfolding handed
  found_ok links directory pool i Check.Link h = by (ltb (process_of w) z.p) refl
    where
      w : ℕ
      w = get_or links (index_of z i) 0

      by : (b : Bool) → ltb (process_of w) z.p ≡ b → Okay z (Some (pick b (Found.On (Check.Marks w)) (Found.NotWritten w)))
      by true e = e
      by false e = tt
  found_ok links directory pool i (Check.Marks w) h = by (ltb (place_of w) seen) refl
    where
      by : (b : Bool) → ltb (place_of w) seen ≡ b → Okay z (Some (pick b (Found.On (Check.Directory w)) (Found.NotWritten w)))
      by true e = let k = ltb-true (place_of w) seen e in rw h (le-leb (place_of w) (most_marks z.m) (omega arith))
      by false e = tt
  found_ok links directory pool i (Check.Directory w) h = h
  found_ok links directory pool i (Check.Mark start w) h = by (Steps.pool_word pool start (place_of w))
    where
      at : (b : Bool) → Okay z (Some (pick b Found.Written (Found.NotWritten w)))
      at true = tt
      at false = tt

      by : (g : Option ℕ) → Okay z (Steps.check_mark (mark_of i) w g)
      by None = tt
      by (Some mark) = at (eqb mark (mark_of i))

-- ---- the operation that a step goes on with

one_more : (n k : ℕ) → leb (n + 1) k ≡ ltb n k
one_more n k = by (ltb n k) refl
  where
    by : (b : Bool) → ltb n k ≡ b → leb (n + 1) k ≡ b
    by true e = let h = ltb-true n k e in le-leb (n + 1) k (omega arith)
    by false e = let h = ltb-false n k e in lt-leb (n + 1) k (omega arith)

-- It is under way, its cell is one of the grid's, and the rest fits exactly if `room` says so.
pub record Onward (z : Terms) (room : Bool) (o : Op) : Type 0 where
  pub busy : idle o ≡ false
  pub cell : cell_fits z (cell_in o) ≡ true
  pub rest : rest_fits z o ≡ room

-- the place of a marking that a test picks
picked : (b : Bool) (j k : Marking) (n : Place) → place_in j ≡ n → place_in k ≡ n → place_in (pick b j k) ≡ n
picked true j k n e f = e
picked false j k n e f = f

first_place : (q link : ℕ) (n : Place) → place_in (Steps.tombstone_first q link n) ≡ n
first_place q link n = picked (eqb link (link_of q n.0)) (Marking.Tombstone link n) (Marking.Mark link n) n refl refl

module _ (z : Terms) (top q : ℕ) (l : Lane) (seen : ℕ) (mem : Memory) (ch : Change) (o : Op) where
  abbrev Goes : Option Turn → Type 0
  Goes t = t ≡ Some (Steps.makes ch (Next.Going o))

  none : {A : Type 0} → ◌≡◌ {A = ℕ} 0 1 → A
  none h = absurd (omega arith)

  next_is : (d : Change) (m : Next) → Goes (Some (Steps.makes d m)) → m ≡ Next.Going o
  next_is d m e = let g : Steps.makes d m ≡ Steps.makes ch (Next.Going o) = cc in ap (λ (t : Turn). t.next) g

  to : (b : Bool) (u : Op) (d : Change) → Onward z b u → Goes (Some (Steps.makes d (Next.Going u))) → Onward z b o
  to b u d h e = let k = next_is d (Next.Going u) e in let f : u ≡ o = cc in rw (← f) h

  module _ (i : Cell) (here : cell_fits z i ≡ true) where
    marks : (b : Bool) (k : Marking) (d : Change) → place_fits z (place_in k) ≡ b → Goes (Some (Steps.marks d i k)) → Onward z b o
    marks b k d h e = to b (Op.Marking i k) d (record { busy = refl; cell = here; rest = h }) e

    -- a place that is in its range already
    keeps : (k : Marking) (n : Place) (d : Change) → place_in k ≡ n → place_fits z n ≡ true → Goes (Some (Steps.marks d i k)) → Onward z true o
    keeps k n d at h e = marks true k d (ap (place_fits z) at ∙ h) e

    reads : (f : Option Found) → Okay z f → Goes (Steps.read_turn z i f) → Onward z true o
    reads None h e = none cc
    reads (Some (Found.On c)) h e = to true (Op.Read i c) Change.Nothing (record { busy = refl; cell = here; rest = h }) e
    reads (Some (Found.NotWritten w)) h e = let k = next_is Change.Nothing (Steps.not_written_read z i) e in none cc
    reads (Some Found.Written) h e = to true (Op.Reading i) Change.Nothing (record { busy = refl; cell = here; rest = refl }) e

    asks : (f : Option Found) → Okay z f → Goes (Steps.asked_turn i f) → Onward z true o
    asks None h e = none cc
    asks (Some (Found.On c)) h e = to true (Op.Asked i c) Change.Nothing (record { busy = refl; cell = here; rest = h }) e
    asks (Some (Found.NotWritten w)) h e = let k = next_is Change.Nothing (Next.Asked false) e in none cc
    asks (Some Found.Written) h e = let k = next_is Change.Nothing (Next.Asked true) e in none cc

    -- 3. The place is the lane's marks in force.
    at_marks : (w : ℕ) → place_in (Steps.marking_at q l w) ≡ record { 0 = l.marks }
    at_marks w = picked (ltb (segment_of l.marks) l.drawn) _ _ _ (first_place q w _) refl

    checks : leb l.marks (most_marks z.m) ≡ true → (f : Option Found) → Okay z f → Goes (Steps.checked_turn q l i f) → Onward z true o
    checks low None h e = none cc
    checks low (Some (Found.On c)) h e = to true (Op.Write i c) Change.Nothing (record { busy = refl; cell = here; rest = h }) e
    checks low (Some (Found.NotWritten w)) h e = keeps (Steps.marking_at q l w) _ Change.Nothing (at_marks w) low e
    checks low (Some Found.Written) h e = let k = next_is Change.Nothing Next.Written e in none cc

    puts : (b : Bool) (start mark : ℕ) (n : Place) (k : Marking) (g : Option ℕ) → place_fits z (place_in k) ≡ b → Goes (Steps.stored start i n mark k g)
        → Onward z b o
    puts b start mark n k None h e = none cc
    puts b start mark n k (Some old) h e = marks b k (Change.Mark start n mark) h e

    swaps : (b : Bool) (at : ℕ) (n : Place) → place_fits z n ≡ true
        → Goes (Some (pick b (Steps.makes (Change.Link at (link_of q n.0)) Next.Written) (Steps.goes (Op.Marking i (Marking.TakeBack n)))))
        → Onward z true o
    swaps true at n h e = let k = next_is (Change.Link at (link_of q n.0)) Next.Written e in none cc
    swaps false at n h e = marks true (Marking.TakeBack n) Change.Nothing h e

    abbrev word : Place → Option ℕ
    word n = Steps.pool_word mem.pool (Steps.start_of mem.directory q n.0) n.0

    -- 4. Then the next place.
    next_place : (w : ℕ) (n : Place) → place_in (Steps.marking_next l w n) ≡ n
    next_place w n = picked (ltb (segment_of n.0) l.drawn) (Marking.Mark w n) (Marking.Draw true w n) n refl refl

    markings : (k : Marking) → place_fits z (place_in k) ≡ true
        → Goes (Steps.marking_turn z top q l mem.links mem.directory mem.pool i k) → Onward z (marking_goes z k) o
    markings (Marking.Draw b w n) h e = marks true _ _ h e
    markings (Marking.Enter b start w n) h e = keeps (Steps.entered q b w n) n _ (picked b (Marking.Mark w n) _ n refl (first_place q w n)) h e
    markings (Marking.Tombstone w n) h e =
        puts _ _ _ n _ (word n) (ap (place_fits z) (next_place w (record { 0 = n.0 + 1 })) ∙ one_more n.0 (most_marks z.m)) e
    markings (Marking.Mark w n) h e = puts true _ _ n _ (word n) h e
    markings (Marking.Force w n) h e = marks true _ _ h e
    markings (Marking.Swap w n) h e = swaps (eqb (get_or mem.links (index_of z i) 0) w) (index_of z i) n h e
    markings (Marking.TakeBack n) h e = let k = next_is (Change.Marks n.0) Next.Written e in none cc

  module _ (few : seen ≤ most_marks z.m) (low : leb l.marks (most_marks z.m) ≡ true) where
    found_in : (i : Cell) (c : Check) → check_fits z c ≡ true → Okay z (Steps.found z top q l (handed seen) mem i c)
    found_in i c h = found_ok z seen few mem.links mem.directory mem.pool i c h

    goes_on : (u : Op) (n : ℕ) → op_fits z n u ≡ true → Goes (Steps.op_turn z top q l (handed seen) mem u) → Onward z (op_goes z u) o
    goes_on Op.Idle n h e = none cc
    goes_on (Op.Read i c) n h e =
        reads i (cell_fits_lem z n (Op.Read i c) refl h) (Steps.found z top q l (handed seen) mem i c) (found_in i c (rest_fits_lem z n (Op.Read i c) refl h)) e
    goes_on (Op.Reading i) n h e = let k = next_is Change.Nothing (Steps.written_read z mem.readings i) e in none cc
    goes_on (Op.Asked i c) n h e =
        asks i (cell_fits_lem z n (Op.Asked i c) refl h) (Steps.found z top q l (handed seen) mem i c)
        (found_in i c (rest_fits_lem z n (Op.Asked i c) refl h)) e
    goes_on (Op.Store i v) n h e =
        to true (Op.Write i Check.Link) _ (record { busy = refl; cell = cell_fits_lem z n (Op.Store i v) refl h; rest = refl }) e
    goes_on (Op.Write i c) n h e =
        checks i (cell_fits_lem z n (Op.Write i c) refl h) low (Steps.found z top q l (handed seen) mem i c)
        (found_in i c (rest_fits_lem z n (Op.Write i c) refl h)) e
    goes_on (Op.Marking i k) n h e = markings i (cell_fits_lem z n (Op.Marking i k) refl h) k (rest_fits_lem z n (Op.Marking i k) refl h) e

-- ---- the whole lane

module _ (z : Terms) (top : ℕ) (l : Lane) (sizes : sizes_fit z top ≡ true) (fits : lane_fits z l ≡ true) where
  -- its counts, and what else is to hold of it
  counts : (ch : Change) (b : Bool)
      → (change_fits z ch && b)
      ≡ (leb (top_after ch top) (pool_words z.p z.m)
      && (leb (lane_after ch l).marks (most_marks z.m) && (leb (lane_after ch l).drawn most_segments && b)))
  counts ch b = by ch
    where
      top_low : leb top (pool_words z.p z.m) ≡ true
      top_low = le-leb _ _ (sized z top sizes).top_high

      marks_low : leb l.marks (most_marks z.m) ≡ true
      marks_low = le-leb _ _ (lane_ok z l fits).marks

      drawn_low : leb l.drawn most_segments ≡ true
      drawn_low = le-leb _ _ (lane_ok z l fits).drawn

      by : (d : Change)
          → (change_fits z d && b)
          ≡ (leb (top_after d top) (pool_words z.p z.m)
          && (leb (lane_after d l).marks (most_marks z.m) && (leb (lane_after d l).drawn most_segments && b)))
      by Change.Nothing = simp (top_low, marks_low, drawn_low)
      by (Change.Reading i v) = simp (top_low, marks_low, drawn_low)
      by (Change.Link i w) = simp (top_low, marks_low, drawn_low)
      by (Change.Directory k w) = simp (top_low, marks_low, drawn_low)
      by (Change.Mark start n x) = simp (top_low, marks_low, drawn_low)
      by (Change.Marks n) = simp (top_low, drawn_low)
      by (Change.Top raised n) = simp (marks_low) (and_assoc (leb raised (pool_words z.p z.m)) (leb n most_segments) b)

  -- for a turn of this lane the few tests come to all of them
  pub told : (q seen : ℕ) (mem : Memory) (t : Option Turn) → seen ≤ most_marks z.m → t ≡ Steps.turn_of z top q l (handed seen) mem → Told z top l t
  told q seen mem t few f u e = by u.next (sym f ∙ e)
    where
      by : (nx : Next) → Steps.turn_of z top q l (handed seen) mem ≡ Some (Steps.makes u.change nx) → new_fits z l u.change nx ≡ numbers_fit z top l u.change nx
      by (Next.Going o) g =
          let on = goes_on z top q l seen mem u.change o few (le-leb _ _ (lane_ok z l fits).marks) l.op l.steps (lane_ok z l fits).op g in
          counts u.change (ltb l.steps most_steps && op_goes z l.op) ∙ rw (same_steps u.change l, on.busy, one_more l.steps most_steps, on.cell, on.rest)
      by (Next.Read v b) g = counts u.change true
      by Next.Written g = counts u.change true
      by (Next.Asked b) g = counts u.change true
