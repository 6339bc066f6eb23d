-- A step keeps what is good.
-- Assumes nothing.
use Rattle.steps.specs.Steps.{makes}
use Rattle.std.specs.Prelude.{ℕ, suc, ◌+◌, ◌<◌, ◌≡◌, refl, List, ◌∷◌, Some, Ok}
use Rattle.std.proofs.Common.{sym, ap, ◌∙◌, subst, arith, length-set}
use Rattle.std.proofs.Math.Decide.{ℕ_discrete}
use Rattle.numbers.specs.Numbers.{offset_of}
use Rattle.lanes.specs.Ranges.{lane_of}
use Rattle.steps.specs.Changes.{lane_after, top_after, memory_after}
use Rattle.steps.specs.ChangeLaws.{same_steps}
use Rattle.acts.specs.Calls.{settled, advance, answer_of}
use Rattle.acts.specs.Lent.{Lengths}
use Rattle.theory.proofs.Interface as Theory
use Rattle.demands.specs.Types.{Terms, Lane, State, Memory, Change, Next}
use Rattle.demands.specs.Book.{Doing, nothing, busy, Book, counted, finished, note_step}
use Rattle.demands.specs.Agrees.{LaneAgrees}
use Rattle.bridge.specs.Shadow.{grid_of, pair_of, stage_of, lane_for, since_of, taken_of, change_of, next_of, mem_of, shadow}
use Rattle.bridge.proofs.ShadowLaws.{list_set, lane_set, lane_all}
use Rattle.bridge.proofs.Good.{Held, Good, Later, law, inside, behind, at_work_lem, does}
use Rattle.bridge.proofs.Goes.{Stores, Carries, turn_as, memory, Goes}
use Rattle.bridge.proofs.Keep.{field_set, field_same, mem_as, beyond_set}

-- ---- what the book has after a step

abbrev pub doing_after : ℕ → Theory.Op → ℕ → ℕ → Next → Doing
doing_after began o i taken (Next.Going op) = busy began o i (suc taken)
doing_after began o i taken (Next.Read v t) = nothing
doing_after began o i taken Next.Written = nothing
doing_after began o i taken (Next.Asked t) = nothing

abbrev pub ended_after : Book → ℕ → ℕ → Theory.Op → ℕ → Next → List Theory.Done
ended_after b q began o i (Next.Going op) = b.ended
ended_after b q began o i (Next.Read v t) = finished b q began o i (Theory.got v t) ∷ b.ended
ended_after b q began o i Next.Written = finished b q began o i Theory.done ∷ b.ended
ended_after b q began o i (Next.Asked t) = finished b q began o i (Theory.told t) ∷ b.ended

abbrev pub book_after : Book → ℕ → ℕ → Theory.Op → ℕ → ℕ → Next → Book
book_after b q began o i taken next = counted b q (doing_after began o i taken next) (ended_after b q began o i next)

pub note_step_lem : (b : Book) (q n : ℕ) {began taken : ℕ} {o : Theory.Op} {i : ℕ} (next : Next) → b.doing q ≡ busy began o i taken
    → note_step b q (Ok (answer_of n next)) ≡ book_after b q began o i taken next
note_step_lem b q n (Next.Going op) e = rw e
note_step_lem b q n (Next.Read v t) e = rw e
note_step_lem b q n Next.Written e = rw e
note_step_lem b q n (Next.Asked t) e = rw e

-- ---- what a step leaves of the lengths and of its lane

keeps_lengths : {z : Terms} {mem : Memory} (change : Change) → Lengths z mem → Lengths z (memory_after change mem)
keeps_lengths Change.Nothing L = L
keeps_lengths {mem = mem} (Change.Reading i v) L =
    record { readings = length-set mem.readings i v ∙ L.readings; links = L.links; directory = L.directory; pool = L.pool }
keeps_lengths {mem = mem} (Change.Link i w) L =
    record { readings = L.readings; links = length-set mem.links i w ∙ L.links; directory = L.directory; pool = L.pool }
keeps_lengths {mem = mem} (Change.Directory k start) L =
    record { readings = L.readings; links = L.links; directory = length-set mem.directory k start ∙ L.directory; pool = L.pool }
keeps_lengths {mem = mem} (Change.Mark start n mark) L =
    record { readings = L.readings; links = L.links; directory = L.directory; pool = length-set mem.pool (start + offset_of n.0) mark ∙ L.pool }
keeps_lengths (Change.Marks n) L = L
keeps_lengths (Change.Top top drawn) L = L

advanced : (next : Next) (l : Lane) → ((advance next l).marks ≡ l.marks) × ((advance next l).drawn ≡ l.drawn)
advanced (Next.Going o) l = (refl, refl)
advanced (Next.Read v t) l = (refl, refl)
advanced Next.Written l = (refl, refl)
advanced (Next.Asked t) l = (refl, refl)

module _ (z : Terms) (o : Theory.Op) (i began taken x : ℕ) where
  agrees_after : (next : Next) (l : Lane) → l.steps ≡ taken → Carries z o i x next → LaneAgrees z (advance next l) (doing_after began o i taken next)
  agrees_after (Next.Going op) l e c = (c.0, omega arith)
  agrees_after (Next.Read v t) l e c = (refl, refl)
  agrees_after Next.Written l e c = (refl, refl)
  agrees_after (Next.Asked t) l e c = (refl, refl)

  held_after : (next : Next) (l : Lane) → Carries z o i x next → Held (advance next l).op x
  held_after (Next.Going op) l c = c.1
  held_after (Next.Read v t) l c = tt
  held_after Next.Written l c = tt
  held_after (Next.Asked t) l c = tt

lane_after_lem : (o : Theory.Op) (i began taken : ℕ) (next : Next) (l : Lane)
    → Theory.next_lane o i (next_of next) ≡ lane_for (doing_after began o i taken next) (advance next l).op
lane_after_lem o i began taken (Next.Going op) l = refl
lane_after_lem o i began taken (Next.Read v t) l = refl
lane_after_lem o i began taken Next.Written l = refl
lane_after_lem o i began taken (Next.Asked t) l = refl

module _ {s : State} {mem : Memory} {b : Book} (H : Good s mem b) (q : ℕ) {began taken : ℕ} {o : Theory.Op} {i : ℕ} (e : b.doing q ≡ busy began o i taken)
    (g : Goes H q o i (lane_of s q).op) where
  abbrev pub stepped_lane : Lane
  stepped_lane = advance g.next (lane_after g.change (lane_of s q))

  abbrev pub stepped_state : State
  stepped_state = settled s q stepped_lane (top_after g.change s.top)

  abbrev pub stepped_memory : Memory
  stepped_memory = memory_after g.change mem

  abbrev pub stepped_book : Book
  stepped_book = book_after b q began o i taken g.next

  pub own : q < s.terms.p
  own = Theory.process_fits (law H) H.whole q (at_work_lem H q e)

  -- the shared words after a change
  mem_path : (change : Change) (next : Next) → Stores mem change
      → Theory.poke (memory H q) q (change_of change)
      ≡ mem_of (settled s q (advance next (lane_after change (lane_of s q))) (top_after change s.top)) (memory_after change mem)
      (Theory.poke (memory H q) q (change_of change)).marks
  mem_path change next h = by change h
    where
      l : Change → Lane
      l c = advance next (lane_after c (lane_of s q))

      force : (c : Change) → (lane_after c (lane_of s q)).marks ≡ (lane_of s q).marks
          → (λ r. (lane_of s r).marks) ≡ (mem_of (settled s q (l c) 0) mem H.marks).in_force
      force c k = field_same H q own (l c) (λ l. l.marks) ((advanced next (lane_after c (lane_of s q))).0 ∙ k)

      drew : (c : Change) → (lane_after c (lane_of s q)).drawn ≡ (lane_of s q).drawn
          → (λ r. (lane_of s r).drawn) ≡ (mem_of (settled s q (l c) 0) mem H.marks).drawn
      drew c k = field_same H q own (l c) (λ l. l.drawn) ((advanced next (lane_after c (lane_of s q))).1 ∙ k)

      by : (c : Change) → Stores mem c
          → Theory.poke (memory H q) q (change_of c)
          ≡ mem_of (settled s q (advance next (lane_after c (lane_of s q))) (top_after c s.top)) (memory_after c mem)
          (Theory.poke (memory H q) q (change_of c)).marks
      by Change.Nothing h = mem_as refl refl (force Change.Nothing refl) (drew Change.Nothing refl)
      by (Change.Reading k v) h = mem_as (list_set (λ x. x) mem.readings k v 0 h) refl (force (Change.Reading k v) refl) (drew (Change.Reading k v) refl)
      by (Change.Link k w) h = mem_as refl (list_set pair_of mem.links k w 0 h) (force (Change.Link k w) refl) (drew (Change.Link k w) refl)
      by (Change.Directory k start) h = mem_as refl refl (force (Change.Directory k start) refl) (drew (Change.Directory k start) refl)
      by (Change.Mark start n mark) h = mem_as refl refl (force (Change.Mark start n mark) refl) (drew (Change.Mark start n mark) refl)
      by (Change.Marks n) h =
          mem_as refl refl (field_set H q own (l (Change.Marks n)) (λ l. l.marks) n (advanced next (lane_after (Change.Marks n) (lane_of s q))).0)
          (drew (Change.Marks n) refl)
      by (Change.Top t d) h =
          mem_as refl refl (force (Change.Top t d) refl)
          (field_set H q own (l (Change.Top t d)) (λ l. l.drawn) d (advanced next (lane_after (Change.Top t d) (lane_of s q))).1)

  ended_path : (next : Next) → Theory.finish (behind H).watch q o i (next_of next) ≡ ended_after b q began o i next
  ended_path (Next.Going op) = refl
  ended_path (Next.Read v t) = ap (λ (d : Doing). finished b q (since_of d) o i (Theory.got v t) ∷ b.ended) e
  ended_path Next.Written = ap (λ (d : Doing). finished b q (since_of d) o i Theory.done ∷ b.ended) e
  ended_path (Next.Asked t) = ap (λ (d : Doing). finished b q (since_of d) o i (Theory.told t) ∷ b.ended) e

  abbrev after : Theory.Run
  after = record {
    watch = Theory.stepped (behind H).watch q o i (turn_as (Some (makes g.change g.next)));
    words = Theory.words_after (grid_of s.terms) (behind H).words q i (stage_of (lane_of s q).op);
    tally = (behind H).tally;
    taken = Theory.upd (behind H).taken q (suc ((behind H).taken q));
  }

  stepped_whole : Theory.Later H.whole after
  stepped_whole =
      subst (λ (t : Theory.Turn). Theory.Later H.whole
      (record { watch = Theory.stepped (behind H).watch q o i t; words = after.words; tally = after.tally; taken = after.taken })) g.same
      (Theory.whole_step (law H) H.whole q (at_work_lem H q e))

  -- the book forgets when a finished operation began and how many steps it took; the theory need not
  forgotten : (r : ℕ) (o₁ : Theory.Op) (i₁ : ℕ) (x : Theory.Stage) → after.watch.lane r ≡ Theory.busy o₁ i₁ x
      → (since_of (stepped_book.doing r) ≡ after.watch.since r) × (taken_of (stepped_book.doing r) ≡ after.taken r)
  forgotten r o₁ i₁ x k = by (ℕ_discrete r q)
    where
      own_lane : (next : Next) → Theory.next_lane o i (next_of next) ≡ Theory.busy o₁ i₁ x
          → (since_of (doing_after began o i taken next) ≡ since_of (b.doing q)) × (taken_of (doing_after began o i taken next) ≡ suc (taken_of (b.doing q)))
      own_lane (Next.Going op) k = rw e (refl, refl)
      own_lane (Next.Read v t) k = absurd (let y : ◌≡◌ {A = ℕ} 0 1 = cc in omega arith)
      own_lane Next.Written k = absurd (let y : ◌≡◌ {A = ℕ} 0 1 = cc in omega arith)
      own_lane (Next.Asked t) k = absurd (let y : ◌≡◌ {A = ℕ} 0 1 = cc in omega arith)

      by : Dec (r ≡ q) → (since_of (stepped_book.doing r) ≡ after.watch.since r) × (taken_of (stepped_book.doing r) ≡ after.taken r)
      by (yes is) =
          let lane : after.watch.lane q ≡ Theory.busy o₁ i₁ x = subst (λ (j : ℕ). after.watch.lane j ≡ Theory.busy o₁ i₁ x) is k in
          let h = own_lane g.next (sym (Theory.upd_same (behind H).watch.lane q _) ∙ lane) in
          rw (is, Theory.upd_same b.doing q (doing_after began o i taken g.next), Theory.upd_same (behind H).taken q (suc ((behind H).taken q))) h
      by (no ne) =
          rw (Theory.upd_other b.doing q (doing_after began o i taken g.next) r ne, Theory.upd_other (behind H).taken q (suc ((behind H).taken q)) r ne)
          (refl, refl)

  step_path : ◌≡◌ {A = Theory.Run}
      (record {
        watch =
            record {
              mem = after.watch.mem;
              lane = after.watch.lane;
              now = suc b.now;
              since = λ r. since_of
                  (stepped_book.doing r);
              ended = after.watch.ended;
            };
        words = after.words;
        tally = after.tally;
        taken = λ r. taken_of (stepped_book.doing r);
      })
      (shadow stepped_state stepped_memory stepped_book after.watch.mem.marks (Theory.upd H.held q g.start))
  step_path = λ z. record {
    watch = record {
      mem = mem_path g.change g.next g.stores z;
      lane =
          (ap (Theory.upd (behind H).watch.lane q) (lane_after_lem o i began taken g.next (lane_after g.change (lane_of s q)))
          ∙ lane_set b.doing s.lanes q (doing_after began o i taken g.next) stepped_lane (inside H q own) (λ d l. lane_for d l.op)) z;
      now = suc b.now;
      since = λ r. since_of (stepped_book.doing r);
      ended = ended_path g.next z;
    };
    words = g.words z;
    tally = (behind H).tally;
    taken = λ r. taken_of (stepped_book.doing r);
  }

  rested_whole : Theory.Later stepped_whole.whole
      (shadow stepped_state stepped_memory stepped_book after.watch.mem.marks (Theory.upd H.held q g.start))
  rested_whole = subst (λ (R : Theory.Run). Theory.Later stepped_whole.whole R) step_path
      (Theory.whole_rest (law H) stepped_whole.whole (suc b.now) (λ r. since_of (stepped_book.doing r)) (λ r. taken_of (stepped_book.doing r))
      (omega arith) forgotten)

  pub good_step : Later H stepped_state stepped_memory stepped_book
  good_step = record {
    good = record {
      bounds = H.bounds;
      lanes = length-set s.lanes q stepped_lane ∙ H.lanes;
      lengths = keeps_lengths g.change H.lengths;
      agrees = lane_all b.doing s.lanes q (doing_after began o i taken g.next) stepped_lane (inside H q own) (λ r d l. LaneAgrees s.terms l d)
          (agrees_after s.terms o i began taken g.start g.next (lane_after g.change (lane_of s q))
          (same_steps g.change (lane_of s q) ∙ (does H q e).1) g.carries) (λ r ne. H.agrees r);
      beyond = beyond_set H q own stepped_lane;
      marks = after.watch.mem.marks;
      held = Theory.upd H.held q g.start;
      holds =
          lane_all b.doing s.lanes q (doing_after began o i taken g.next) stepped_lane (inside H q own)
          (λ r d l. Held l.op (Theory.upd H.held q g.start r))
          (rw (Theory.upd_same H.held q g.start) (held_after s.terms o i began taken g.start g.next (lane_after g.change (lane_of s q))
          g.carries)) (λ r ne. rw (Theory.upd_other H.held q g.start r ne) (H.holds r));
      whole = rested_whole.whole;
    };
    grown = Theory.grown_on stepped_whole.grown rested_whole.grown;
  }
