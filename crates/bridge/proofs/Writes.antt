-- Every step of a write after its check is the theory's step.
-- Assumes nothing.
use Rattle.std.specs.Prelude.{ℕ, suc, ◌+◌, ◌^◌, ◌<◌, ◌≡◌, refl, Bool, true, false, eqb, length, get_or, Some}
use Rattle.std.proofs.Common.{sym, ap, ◌∙◌, subst, add-one, arith}
use Rattle.std.proofs.Math.Decide.{dec_lt}
use Rattle.numbers.specs.Numbers.{most_segments, link_processes, link_places, segment_of, offset_of, size_of, directory_word, link_of, tombstone}
use Rattle.logic.specs.Pick.{pick}
use Rattle.lanes.specs.Ranges.{lane_of}
use Rattle.steps.specs.Steps.{makes, goes, start_of, entered, stored, put_turn, marking_next, marking_turn}
use Rattle.steps.specs.Changes.{memory_after}
use Rattle.numbers.specs.Cells.{mark_of, index_of}
use Rattle.theory.proofs.Interface as Theory
use Rattle.demands.specs.Types.{Cell, Place, Check, Marking, Op, State, Memory, Change, Next, Turn}
use Rattle.demands.specs.Book.{busy, Book}
use Rattle.demands.specs.Agrees.{Does}
use Rattle.bridge.specs.Shadow.{grid_of, pair_of, seen_of, mark_at, stage_of, starts_in, words_of}
use Rattle.bridge.proofs.ShadowLaws.{pick_yes, pick_link, pair_link, list_set, upd_self, starts_set}
use Rattle.bridge.proofs.Good.{HeldAt, Held, Good, law, behind, at_work_lem, does}
use Rattle.bridge.proofs.Goes.{turn_as, memory, Goes, still, word_at}
use Rattle.bridge.proofs.Looks as Looks

size_same : (s : ℕ) → 2 ^ suc s ≡ size_of s
unfolding size_of
size_same s = rw (add-one s)

module _ {s : State} {mem : Memory} {b : Book} (H : Good s mem b) (q : ℕ) (hq : q < s.terms.p) (j : Cell) (v : ℕ) where
  abbrev at : ℕ
  at = index_of s.terms j

  abbrev GoesAt : Marking → Type 0
  GoesAt k = Goes H q (Theory.write v) at (Op.Marking j k)

  abbrev At : Marking → Type 0
  At k = (behind H).watch.lane q ≡ Theory.busy (Theory.write v) at (Theory.marking (mark_at k))

  few : q < link_processes
  few = omega (arith, H.bounds.p_high)

  -- the words, with the pool or the directory changed
  held_kept : ◌≡◌ {A = ℕ → ℕ} H.held (Theory.upd H.held q (H.held q))
  held_kept = sym (upd_self H.held q (H.held q) refl)

  -- 1.
  pub goes_store : (behind H).watch.lane q ≡ Theory.busy (Theory.write v) at Theory.store → Goes H q (Theory.write v) at (Op.Store j v)
  goes_store e = record {
    change = Change.Reading at v;
    next = Next.Going (Op.Write j Check.Link);
    start = H.held q;
    turned = refl;
    same = refl;
    stores = omega (arith, H.lengths.readings, Theory.touches (law H) H.whole q e);
    words = still H q;
    carries = (refl, tt);
  }

  -- 3.
  goes_draw : (was : Bool) (w : ℕ) (n : Place) → GoesAt (Marking.Draw was w n)
  goes_draw was w n = record {
    change = Change.Top (s.top + size_of (segment_of n.0)) (segment_of n.0 + 1);
    next = Next.Going (Op.Marking j (Marking.Enter was s.top w n));
    start = s.top;
    turned = refl;
    same =
        ap (λ (k : ℕ). Theory.turn_to (Theory.set_drawn k) (Theory.go (Theory.marking (Theory.enter was (seen_of w) n.0))))
        (sym (add-one (segment_of n.0)));
    stores = tt;
    words = ap (λ (k : ℕ). words_of (s.top + k) mem (Theory.upd H.held q s.top)) (size_same (segment_of n.0));
    carries = (refl, refl);
  }

  goes_enter : (was : Bool) (start w : ℕ) (n : Place) → At (Marking.Enter was start w n) → H.held q ≡ start → GoesAt (Marking.Enter was start w n)
  goes_enter was start w n e h = record {
    change = Change.Directory (directory_word q (segment_of n.0)) start;
    next = Next.Going (Op.Marking j (entered q was w n));
    start = H.held q;
    turned = refl;
    same =
        ap (λ (g : Theory.Marking). Theory.turn_to Theory.keep (Theory.go (Theory.marking g)))
        (Looks.entered_same q w few was n (omega (arith, H.bounds.m_high, tch.1)));
    stores = tt;
    words = λ z. record { directory = directory z; pool = λ k. get_or mem.pool k 0; top = s.top; held = held_kept z };
    carries = (refl, Looks.entered_free q w (H.held q) was n);
  }
    where
      tch : Theory.Touch (grid_of s.terms) (behind H).words q at (Theory.marking (Theory.enter was (seen_of w) n.0))
      tch = Theory.touches (law H) H.whole q e

      directory : Theory.upd (starts_in mem.directory) q (Theory.upd (starts_in mem.directory q) (segment_of n.0) (H.held q))
          ≡ starts_in (memory_after (Change.Directory (directory_word q (segment_of n.0)) start) mem).directory
      directory =
          ap (λ (x : ℕ). Theory.upd (starts_in mem.directory) q (Theory.upd (starts_in mem.directory q) (segment_of n.0) x)) h
          ∙ starts_set mem.directory q (segment_of n.0) start tch.0 (omega (arith, H.lengths.directory, tch.0))

  -- 4. and 5.: a word is stored at the own place n
  module _ (n : Place) (word : ℕ)
      (tch : Theory.Inside (grid_of s.terms) (starts_in mem.directory q (segment_of n.0)) n.0 × (segment_of n.0 < most_segments)
      × (n.0 < Theory.most_marks (grid_of s.terms))) where
    abbrev start : ℕ
    start = start_of mem.directory q n.0

    start_same : starts_in mem.directory q (segment_of n.0) ≡ start
    start_same = pick_yes (dec_lt (segment_of n.0) most_segments) start 0 tch.1

    in_pool : start + offset_of n.0 < length mem.pool
    in_pool = omega (arith, H.lengths.pool, start_same, tch.0.0)

    abbrev changed : ℕ → ℕ
    changed = Theory.upd (λ k. get_or mem.pool k 0) (starts_in mem.directory q (segment_of n.0) + offset_of n.0) word

    pool_same : ◌≡◌ {A = ℕ → ℕ} changed (λ k. get_or (memory_after (Change.Mark start n word) mem).pool k 0)
    pool_same =
        ap (λ (x : ℕ). Theory.upd (λ k. get_or mem.pool k 0) (x + offset_of n.0) word) start_same
        ∙ list_set (λ x. x) mem.pool (start + offset_of n.0) word 0 in_pool

    goes_word : (k g : Marking)
        → Theory.take_turn (grid_of s.terms) (memory H q) q (Theory.write v) at (Theory.marking (mark_at k))
        ≡ Theory.turn_to (Theory.set_mark n.0 word) (Theory.go (Theory.marking (mark_at g)))
        → Theory.words_after (grid_of s.terms) (behind H).words q at (Theory.marking (mark_at k))
        ≡ record { directory = starts_in mem.directory; pool = changed; top = s.top; held = H.held }
        → marking_turn s.terms s.top q (lane_of s q) mem.links mem.directory mem.pool j k ≡ put_turn q mem.directory mem.pool j n word g
        → HeldAt g (H.held q) → GoesAt k
    goes_word k g same words is free = record {
      change = Change.Mark start n word;
      next = Next.Going (Op.Marking j g);
      start = H.held q;
      turned = is ∙ ap (stored start j n word g) (word_at H q start n.0 in_pool);
      same = same;
      stores = tt;
      words = words ∙ (λ z. record { directory = starts_in mem.directory; pool = pool_same z; top = s.top; held = held_kept z });
      carries = (refl, free);
    }

  goes_tombstone : (w : ℕ) (n : Place) → At (Marking.Tombstone w n) → GoesAt (Marking.Tombstone w n)
  goes_tombstone w n e =
      goes_word n tombstone (Theory.touches (law H) H.whole q e) (Marking.Tombstone w n) (marking_next (lane_of s q) w (record { 0 = n.0 + 1 }))
      (ap (λ (g : Theory.Marking). Theory.turn_to (Theory.set_mark n.0 tombstone) (Theory.go (Theory.marking g))) (Looks.next_same H q w n.0))
      refl refl (Looks.next_free q w (H.held q) (lane_of s q) (record { 0 = n.0 + 1 }))

  goes_mark : (w : ℕ) (n : Place) → At (Marking.Mark w n) → GoesAt (Marking.Mark w n)
  goes_mark w n e =
      goes_word n (mark_of j) (Theory.touches (law H) H.whole q e) (Marking.Mark w n) (Marking.Force w n) refl refl refl tt

  -- 6.
  goes_force : (w : ℕ) (n : Place) → GoesAt (Marking.Force w n)
  goes_force w n = record {
    change = Change.Marks (n.0 + 1);
    next = Next.Going (Op.Marking j (Marking.Swap w n));
    start = H.held q;
    turned = refl;
    same =
        ap (λ (k : ℕ). Theory.turn_to (Theory.set_in_force k) (Theory.go (Theory.marking (Theory.swap (seen_of w) n.0)))) (sym (add-one n.0));
    stores = tt;
    words = still H q;
    carries = (refl, tt);
  }

  -- 7.
  goes_swap : (w : ℕ) (n : Place) → At (Marking.Swap w n) → GoesAt (Marking.Swap w n)
  goes_swap w n e = by (eqb (get_or mem.links at 0) w) refl
    where
      tch : (at < s.terms.m) × (n.0 < Theory.most_marks (grid_of s.terms))
      tch = Theory.touches (law H) H.whole q e

      won : Turn
      won = makes (Change.Link (index_of s.terms j) (link_of q n.0)) Next.Written

      lost : Turn
      lost = goes (Op.Marking j (Marking.TakeBack n))

      same : Theory.take_turn (grid_of s.terms) (memory H q) q (Theory.write v) at (Theory.marking (Theory.swap (seen_of w) n.0))
          ≡ turn_as (Some (pick (eqb (get_or mem.links at 0) w) won lost))
      same =
          ap (λ (L : Theory.Link). Theory.pick (Theory.same_link (pair_of (get_or mem.links (index_of s.terms j) 0)) (pair_of w))
          (Theory.turn_to (Theory.set_link (index_of s.terms j) L) (Theory.end Theory.done)) (turn_as (Some lost)))
          (sym (pair_link q n.0 few (omega (arith, H.bounds.m_high, tch.1))))
          ∙ pick_link (λ (t : Turn). turn_as (Some t)) (get_or mem.links (index_of s.terms j) 0) w (pair_of w) won lost refl

      by : (t : Bool) → eqb (get_or mem.links at 0) w ≡ t → GoesAt (Marking.Swap w n)
      by true is = record {
        change = Change.Link (index_of s.terms j) (link_of q n.0);
        next = Next.Written;
        start = H.held q;
        turned = ap (λ (t : Bool). Some (pick t won lost)) is;
        same = same ∙ ap (λ (t : Bool). turn_as (Some (pick t won lost))) is;
        stores = omega (arith, H.lengths.links, tch.0);
        words = still H q;
        carries = tt;
      }
      by false is = record {
        change = Change.Nothing;
        next = Next.Going (Op.Marking j (Marking.TakeBack n));
        start = H.held q;
        turned = ap (λ (t : Bool). Some (pick t won lost)) is;
        same = same ∙ ap (λ (t : Bool). turn_as (Some (pick t won lost))) is;
        stores = tt;
        words = still H q;
        carries = (refl, tt);
      }

  -- 8.
  goes_back : (n : Place) → GoesAt (Marking.TakeBack n)
  goes_back n = record {
    change = Change.Marks n.0;
    next = Next.Written;
    start = H.held q;
    turned = refl;
    same = refl;
    stores = tt;
    words = still H q;
    carries = tt;
  }

  goes_marking : (k : Marking) → At k → HeldAt k (H.held q) → GoesAt k
  goes_marking (Marking.Draw was w x) e h = goes_draw was w x
  goes_marking (Marking.Enter was start w x) e h = goes_enter was start w x e h
  goes_marking (Marking.Tombstone w x) e h = goes_tombstone w x e
  goes_marking (Marking.Mark w x) e h = goes_mark w x e
  goes_marking (Marking.Force w x) e h = goes_force w x
  goes_marking (Marking.Swap w x) e h = goes_swap w x e
  goes_marking (Marking.TakeBack x) e h = goes_back x

-- any step of an operation under way
pub goes_on : {s : State} {mem : Memory} {b : Book} (H : Good s mem b) (q : ℕ) {began taken : ℕ} {o : Theory.Op} {i : ℕ}
    → b.doing q ≡ busy began o i taken → Goes H q o i (lane_of s q).op
goes_on {s} {mem} {b} H q {began} {taken} {o} {i} e = by o (lane_of s q).op (at_work_lem H q e) (does H q e).0 (H.holds q)
  where
    hq : q < s.terms.p
    hq = Theory.process_fits (law H) H.whole q (at_work_lem H q e)

    few : q < link_processes
    few = omega (arith, H.bounds.p_high, hq)

    small : (lane_of s q).marks < link_places
    small = omega (arith, H.bounds.m_high, Theory.marks_fit (law H) H.whole q)

    Fits : Theory.Op → Op → ℕ → Type 0
    Fits o op k = (behind H).watch.lane q ≡ Theory.busy o k (stage_of op) → Goes H q o k op

    -- the cell of the operation lies at the book's index
    by : (o : Theory.Op) (op : Op) → (behind H).watch.lane q ≡ Theory.busy o i (stage_of op) → Does s.terms o i op → Held op (H.held q) → Goes H q o i op
    by Theory.read (Op.Read j c) at d h = subst (Fits Theory.read (Op.Read j c)) d (λ at. Looks.goes_read H q j c at h) at
    by Theory.read (Op.Reading j) at d h = subst (Fits Theory.read (Op.Reading j)) d (λ at. Looks.goes_reading H q j) at
    by Theory.asked (Op.Asked j c) at d h = subst (Fits Theory.asked (Op.Asked j c)) d (λ at. Looks.goes_asked H q j c at h) at
    by (Theory.write v) (Op.Store j w) at d h =
        subst (λ (x : ℕ). Goes H q (Theory.write v) i (Op.Store j x)) (sym d.1)
        (subst (Fits (Theory.write v) (Op.Store j v)) d.0 (goes_store H q hq j v) at)
    by (Theory.write v) (Op.Write j c) at d h = subst (Fits (Theory.write v) (Op.Write j c)) d (λ at. Looks.goes_check H q j v c few small at h) at
    by (Theory.write v) (Op.Marking j k) at d h = subst (Fits (Theory.write v) (Op.Marking j k)) d (λ at. goes_marking H q hq j v k at h) at
    by _ _ at d h = elim d [ ]
