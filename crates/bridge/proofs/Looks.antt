-- Every step of a read and of an asked is the theory's step, and so is the check of a write.
-- Assumes nothing.
use Rattle.std.specs.Prelude.{ℕ, suc, ◌+◌, ◌<◌, ◌≡◌, refl, Bool, true, false, ltb, eqb, get_or, Option, None, Some}
use Rattle.std.proofs.Common.{sym, ap, ◌∙◌, add-one}
use Rattle.std.proofs.Math.Decide.{dec_lt}
use Rattle.numbers.specs.Numbers.{segment_of, link_processes, link_places, link_of}
use Rattle.numbers.specs.Cells.{index_of, fill_at}
use Rattle.lanes.specs.Ranges.{lane_of}
use Rattle.steps.specs.Steps.{makes, read_turn, asked_turn, tombstone_first, marking_at, marking_next, entered, checked_turn}
use Rattle.theory.proofs.Interface as Theory
use Rattle.demands.specs.Types.{Cell, Place, Check, Marking, Op, Lane, State, Memory, Found, Change, Next, Turn}
use Rattle.demands.specs.Book.{Book}
use Rattle.bridge.specs.Shadow.{grid_of, seen_of, check_at, mark_at, stage_of, next_of}
use Rattle.bridge.proofs.ShadowLaws.{pick_both, pick_lt, pick_link, pair_link}
use Rattle.bridge.proofs.Good.{HeldIn, HeldAt, Good, behind}
use Rattle.bridge.proofs.Goes.{Carries, Fine, memory, turn_for, Goes, still, found, after, Checked, checked}

-- ---- where a write goes on: these markings hold no start

module _ (q w x : ℕ) where
  first_free : (n : Place) → HeldAt (tombstone_first q w n) x
  first_free n = pick_both (λ (k : Marking). HeldAt k x) (eqb w (link_of q n.0)) (Marking.Tombstone w n) (Marking.Mark w n) tt tt

  at_free : (l : Lane) → HeldAt (marking_at q l w) x
  at_free l =
      pick_both (λ (k : Marking). HeldAt k x) (ltb (segment_of l.marks) l.drawn) (tombstone_first q w (record { 0 = l.marks }))
      (Marking.Draw false w (record { 0 = l.marks })) (first_free (record { 0 = l.marks })) tt

  pub next_free : (l : Lane) (n : Place) → HeldAt (marking_next l w n) x
  next_free l n = pick_both (λ (k : Marking). HeldAt k x) (ltb (segment_of n.0) l.drawn) (Marking.Mark w n) (Marking.Draw true w n) tt tt

  pub entered_free : (stored : Bool) (n : Place) → HeldAt (entered q stored w n) x
  entered_free stored n = pick_both (λ (k : Marking). HeldAt k x) stored (Marking.Mark w n) (tombstone_first q w n) tt (first_free n)

module _ (q w : ℕ) (small : q < link_processes) where
  first_same : (n : Place) → n.0 < link_places → Theory.use_place false q (seen_of w) n.0 ≡ mark_at (tombstone_first q w n)
  first_same n h = pick_link mark_at w (link_of q n.0) (Theory.mk q n.0) (Marking.Tombstone w n) (Marking.Mark w n) (pair_link q n.0 small h)

  pub entered_same : (stored : Bool) (n : Place) → n.0 < link_places → Theory.use_place stored q (seen_of w) n.0 ≡ mark_at (entered q stored w n)
  entered_same true n h = refl
  entered_same false n h = first_same n h

module _ {s : State} {mem : Memory} {b : Book} (H : Good s mem b) (q w : ℕ) where
  at_same : q < link_processes → (lane_of s q).marks < link_places
      → Theory.plan (grid_of s.terms) false (memory H q) q (seen_of w) (lane_of s q).marks ≡ mark_at (marking_at q (lane_of s q) w)
  at_same small h =
      ap (λ (g : Theory.Marking). Theory.pick (dec_lt (segment_of n.0) (lane_of s q).drawn) g (mark_at (Marking.Draw false w n))) (first_same q w small n h)
      ∙ pick_lt mark_at (segment_of (lane_of s q).marks) (lane_of s q).drawn (tombstone_first q w n) (Marking.Draw false w n)
    where
      n : Place
      n = record { 0 = (lane_of s q).marks }

  pub next_same : (n : ℕ)
      → Theory.plan (grid_of s.terms) true (memory H q) q (seen_of w) (suc n) ≡ mark_at (marking_next (lane_of s q) w (record { 0 = n + 1 }))
  next_same n =
      ap (λ (k : ℕ). Theory.plan (grid_of s.terms) true (memory H q) q (seen_of w) k) (sym (add-one n))
      ∙ pick_lt mark_at (segment_of (n + 1)) (lane_of s q).drawn (Marking.Mark w (record { 0 = n + 1 })) (Marking.Draw true w (record { 0 = n + 1 }))

-- ---- the steps that look

module _ {s : State} {mem : Memory} {b : Book} (H : Good s mem b) (q : ℕ) (j : Cell) where
  abbrev at : ℕ
  at = index_of s.terms j

  -- what a turn makes of what was found: no change, and what the theory has next
  record Says (o : Theory.Op) (x : ℕ) (f : Option Found) (t : Option Turn) : Type 0 where
    next : Next
    is : t ≡ Some (makes Change.Nothing next)
    same : after H q o at f ≡ next_of next
    carries : Carries s.terms o at x next

  looks : (o : Theory.Op) (op : Op) (c : Check) (turn : Option Found → Option Turn) → stage_of op ≡ check_at c → turn_for H q op ≡ turn (found H q j c)
      → (behind H).watch.lane q ≡ Theory.busy o at (check_at c) → HeldIn c (H.held q)
      → ((x : ℕ) (f : Option Found) → Fine x f → Says o x f (turn f)) → Goes H q o at op
  looks o op c turn stage is e h says = record {
    change = Change.Nothing;
    next = S.next;
    start = K.start;
    turned = is ∙ S.is;
    same = ap (Theory.take_turn (grid_of s.terms) (memory H q) q o at) stage ∙ K.same ∙ ap (Theory.turn_to Theory.keep) S.same;
    stores = tt;
    words = ap (Theory.words_after (grid_of s.terms) (behind H).words q at) stage ∙ K.words;
    carries = S.carries;
  }
    where
      K : Checked H q o j c
      K = checked H q o j c e h

      S : Says o K.start (found H q j c) (turn (found H q j c))
      S = says K.start (found H q j c) K.fine

  read_says : (x : ℕ) (f : Option Found) → Fine x f → Says Theory.read x f (read_turn s.terms j f)
  read_says x None fine = elim fine [ ]
  read_says x (Some (Found.On c)) fine = record { next = Next.Going (Op.Read j c); is = refl; same = refl; carries = (refl, fine) }
  read_says x (Some (Found.NotWritten w)) fine = record { next = Next.Read (fill_at s.terms j) false; is = refl; same = refl; carries = tt }
  read_says x (Some Found.Written) fine = record { next = Next.Going (Op.Reading j); is = refl; same = refl; carries = (refl, tt) }

  asked_says : (x : ℕ) (f : Option Found) → Fine x f → Says Theory.asked x f (asked_turn j f)
  asked_says x None fine = elim fine [ ]
  asked_says x (Some (Found.On c)) fine = record { next = Next.Going (Op.Asked j c); is = refl; same = refl; carries = (refl, fine) }
  asked_says x (Some (Found.NotWritten w)) fine = record { next = Next.Asked false; is = refl; same = refl; carries = tt }
  asked_says x (Some Found.Written) fine = record { next = Next.Asked true; is = refl; same = refl; carries = tt }

  pub goes_read : (c : Check) → (behind H).watch.lane q ≡ Theory.busy Theory.read at (check_at c) → HeldIn c (H.held q)
      → Goes H q Theory.read at (Op.Read j c)
  goes_read c e h = looks Theory.read (Op.Read j c) c (read_turn s.terms j) refl refl e h read_says

  pub goes_asked : (c : Check) → (behind H).watch.lane q ≡ Theory.busy Theory.asked at (check_at c) → HeldIn c (H.held q)
      → Goes H q Theory.asked at (Op.Asked j c)
  goes_asked c e h = looks Theory.asked (Op.Asked j c) c (asked_turn j) refl refl e h asked_says

  pub goes_reading : Goes H q Theory.read at (Op.Reading j)
  goes_reading = record {
    change = Change.Nothing;
    next = Next.Read (get_or mem.readings at 0) true;
    start = H.held q;
    turned = refl;
    same = refl;
    stores = tt;
    words = still H q;
    carries = tt;
  }

  pub goes_check : (v : ℕ) (c : Check) → q < link_processes → (lane_of s q).marks < link_places
      → (behind H).watch.lane q ≡ Theory.busy (Theory.write v) at (check_at c) → HeldIn c (H.held q)
      → Goes H q (Theory.write v) at (Op.Write j c)
  goes_check v c hq hn e h = looks (Theory.write v) (Op.Write j c) c (checked_turn q (lane_of s q) j) refl refl e h says
    where
      says : (x : ℕ) (f : Option Found) → Fine x f → Says (Theory.write v) x f (checked_turn q (lane_of s q) j f)
      says x None fine = elim fine [ ]
      says x (Some (Found.On c₁)) fine = record { next = Next.Going (Op.Write j c₁); is = refl; same = refl; carries = (refl, fine) }
      says x (Some (Found.NotWritten w)) fine = record {
        next = Next.Going (Op.Marking j (marking_at q (lane_of s q) w));
        is = refl;
        same = ap (λ (k : Theory.Marking). Theory.go (Theory.marking k)) (at_same H q w hq hn);
        carries = (refl, at_free q w x (lane_of s q));
      }
      says x (Some Found.Written) fine = record { next = Next.Written; is = refl; same = refl; carries = tt }
