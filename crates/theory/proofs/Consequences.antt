-- What the whole invariant gives: one order, counted steps, a pool that never runs short, every number in its range.
-- Assumes nothing.
use Rattle.std.specs.Prelude.{◌≡◌, refl, ℕ, suc, ◌+◌, ◌*◌, ◌-◌, ◌^◌, ◌≤◌, ◌<◌}
use Rattle.std.proofs.Common.{sym, ap, ◌∙◌, inl, inr, ⊎_elim, arith}
use mathlib.Core.List.{Memᴰ}
use Rattle.theory.specs.Array.{Op}
use Rattle.theory.specs.Order.{Done, Is, OrderOf}
use Rattle.theory.specs.Segments.{off_inside, pow_pos}
use Rattle.theory.specs.Machine.{Grid, most_marks, pool_words, Lawful, Seen, Marking, Stage, marking, busy, Mem}
use Rattle.theory.specs.Words.{address}
use Rattle.theory.specs.Run.{Run}
use Rattle.theory.specs.OneOrder.{Under, OneOrder}
use Rattle.theory.specs.Standing.{Standing, nowhere, making, entering, stamping, hanging, standing, front_at, front, ready_by, ready_at, ready}
use Rattle.theory.specs.Inv.{BusyOk}
use Rattle.theory.specs.Steps.{busy_ok}
use Rattle.theory.proofs.Sieve.{sieved_order}
use Rattle.theory.specs.Sum.{sum}
use Rattle.theory.specs.AccountSteps.{acc_stage}
use Rattle.theory.specs.Count.{handed_out}
use Rattle.theory.specs.Layout.{Owns}
use Rattle.theory.specs.Top.{Sums, sums_step}
use Rattle.theory.specs.Ranges
use Rattle.theory.specs.Ticks.{bound}
use Rattle.theory.specs.Timely.{Timely, tick_bound}
use Rattle.theory.proofs.Whole.{Whole, world_of}
use Rattle.theory.specs.Touch.{Inside, Reached, TouchIn, Touch}

module _ {G : Grid} (A : Lawful G) {R : Run} (H : Whole G R) where
  abbrev M : Mem
  M = R.watch.mem

  -- one order of all ended operations and some writes under way
  pub one_order : OneOrder G.f R.watch
  one_order = sieved_order H.inv

  -- the order so far: all ended operations and some under way, each with its place at a call already made
  abbrev pub order_so_far : OrderOf G.f R.watch.ended (λ e. Under R.watch e × (e.at < R.watch.now))
  order_so_far = record {
    order = H.log;
    orderly = H.inv.logs.orderly;
    complete = H.inv.logs.complete;
    sound = λ e m.
        ⊎_elim (λ (h : (d : Done) × Memᴰ d R.watch.ended × Is e d). inl h)
        (λ (u : Under R.watch e). inr (u, H.inv.logs.early e m)) (H.inv.logs.sound e m);
  }

  -- an operation under way has taken fewer steps than its bound
  pub steps_under_way : (q : ℕ) {o : Op} {i : ℕ} {g : Stage} → R.watch.lane q ≡ busy o i g → R.taken q < bound o
  unfolding Timely
  steps_under_way q {o} {i} {g} e = tick_bound H.inv H.layout q o i g e (R.taken q) (H.timely q o i g e)

  -- words handed out: at most 4 for each cell and 2 for each process with a begun write
  pub pool_bound_lem : R.words.top ≤ 4 * sum R.tally.cells G.m + 2 * sum R.tally.procs G.p
  unfolding Sums
  pool_bound_lem = omega (arith, H.top, handed_out H.account)

  pub top_fits : R.words.top ≤ pool_words G
  unfolding Sums
  top_fits = omega (arith, H.top, Ranges.handed_le H.account H.ones)

  pub drawn_fits : (q : ℕ) → M.drawn q ≤ G.shape.segments
  drawn_fits = Ranges.drawn_le H.account H.ones A

  pub marks_fit : (q : ℕ) → M.in_force q ≤ most_marks G
  marks_fit q = omega (arith, (H.inv.counts q).1, H.few q)

  pub front_fits : (q : ℕ) → front (R.watch.lane q) (M.in_force q) < most_marks G
  front_fits = Ranges.front_le H.account H.ones

  -- the process and the cell of an operation under way
  pub process_fits : (q : ℕ) {o : Op} {i : ℕ} {g : Stage} → R.watch.lane q ≡ busy o i g → q < G.p
  process_fits q {o} {i} {g} e = (busy_ok H.inv q e).proc

  pub cell_fits_lem : (q : ℕ) {o : Op} {i : ℕ} {g : Stage} → R.watch.lane q ≡ busy o i g → i < G.m
  cell_fits_lem q {o} {i} {g} e = (busy_ok H.inv q e).cell

  -- every segment in the directory lies below the top
  segment_inside : (r n : ℕ) → r < G.p → G.shape.seg n < ready (R.watch.lane r) (M.drawn r) → Inside G (R.words.directory r (G.shape.seg n)) n
  segment_inside r n hr h = (omega (arith, (own (G.shape.off n) (off_inside G.shape n)).1, top_fits), last)
    where
      own : Owns G H.owner R.words.top r (G.shape.seg n) (R.words.directory r (G.shape.seg n))
      own = H.layout.owned r (G.shape.seg n) hr h

      last : R.words.directory r (G.shape.seg n) + 2 ^ suc (G.shape.seg n) ≤ pool_words G
      last = omega (arith, (own (2 ^ suc (G.shape.seg n) - 1) (omega (arith, pow_pos (G.shape.seg n)))).1, top_fits, pow_pos (G.shape.seg n))

  ready_fits : (r : ℕ) → ready (R.watch.lane r) (M.drawn r) ≤ G.shape.segments
  ready_fits r = omega (arith, below (standing (R.watch.lane r)), drawn_fits r)
    where
      below : (t : Standing) → ready_by t (M.drawn r) ≤ M.drawn r
      below nowhere = omega arith
      below (making n) = omega arith
      below (entering n) = omega arith
      below (stamping n) = omega arith
      below (hanging n) = omega arith

  -- a place in force is found through the directory, inside the pool, where its mark lies
  pub place_read : (r n : ℕ) → r < G.p → n < M.in_force r
      → (G.shape.seg n < G.shape.segments) × Inside G (R.words.directory r (G.shape.seg n)) n
      × (R.words.pool (address G R.words r n) ≡ M.marks r n)
  place_read r n hr h = let k : n < H.used r = omega (arith, (H.inv.counts r).1) in
      let c = H.layout.cover r n k in
      (omega (arith, c, ready_fits r), segment_inside r n hr c, sym (H.layout.marks r n hr k))

  -- the word that the next step touches lies inside its memory
  pub touches : (q : ℕ) {o : Op} {i : ℕ} {g : Stage} → R.watch.lane q ≡ busy o i g → Touch G R.words q i g
  unfolding Sums
  touches q {o} {i} {g} e = by g e (busy_ok H.inv q e)
    where
      low : (g : Stage) → R.watch.lane q ≡ busy o i g → front_at g (M.in_force q) < most_marks G
      low g e = rw e at (front_fits q)

      stamped : (k : Marking) (n : ℕ) → R.watch.lane q ≡ busy o i (marking k) → front_at (marking k) (M.in_force q) ≡ n
          → ready_at (marking k) (M.drawn q) ≡ M.drawn q → G.shape.seg n < M.drawn q
          → Reached G (R.words.directory q (G.shape.seg n)) n
      stamped k n e hf hr h =
          (segment_inside q n (busy_ok H.inv q e).proc (rw (e, hr) h), omega (arith, h, drawn_fits q), omega (arith, hf, low (marking k) e))

      in_marking : (k : Marking) → R.watch.lane q ≡ busy o i (marking k) → TouchIn G R.words q i k
      in_marking (Marking.draw s S n) e = (omega (arith, fits), room, low (marking (Marking.draw s S n)) e)
        where
          fits : suc (G.shape.seg n) ≤ G.shape.segments
          fits = Ranges.segments_suffice H.account H.ones A (suc (G.shape.seg n)) n (G.shape.low n) (low (marking (Marking.draw s S n)) e)

          room : R.words.top + 2 ^ suc (G.shape.seg n) ≤ pool_words G
          room = omega (
            arith,
            sums_step H.inv H.layout H.top q o i (marking (Marking.draw s S n)) e,
            Ranges.handed_le (acc_stage H.inv H.account q o i (marking (Marking.draw s S n)) e) H.ones,
          )
      in_marking (Marking.enter s S n) e =
          (omega (arith, (H.layout.stages q o i (marking (Marking.enter s S n)) e).0, drawn_fits q), low (marking (Marking.enter s S n)) e)
      in_marking (Marking.tombstone S n) e = stamped (Marking.tombstone S n) n e refl refl (H.layout.stages q o i (marking (Marking.tombstone S n)) e)
      in_marking (Marking.mark S n) e = stamped (Marking.mark S n) n e refl refl (H.layout.stages q o i (marking (Marking.mark S n)) e)
      in_marking (Marking.force S n) e = low (marking (Marking.force S n)) e
      in_marking (Marking.swap S n) e = ((busy_ok H.inv q e).cell, low (marking (Marking.swap S n)) e)
      in_marking (Marking.take_back n) e = low (marking (Marking.take_back n)) e

      covered : (S : Seen) → S.at.place < H.used S.at.proc
          → G.shape.seg S.at.place < ready (R.watch.lane S.at.proc) (M.drawn S.at.proc)
      covered S = H.layout.cover S.at.proc S.at.place

      by : (g : Stage) → R.watch.lane q ≡ busy o i g → BusyOk G H.old_link (world_of H) q o i g → Touch G R.words q i g
      by Stage.store e b = b.cell
      by Stage.check_link e b = b.cell
      by (Stage.check_marks S) e b = b.at.1
      by (Stage.check_directory S) e b =
          (b.at.1, omega (arith, covered S b.at.2, ready_fits S.at.proc), omega (arith, b.at.2, H.few S.at.proc))
      by (Stage.check_mark S) e b = (
        b.at.1,
        rw (H.layout.stages q o i (Stage.check_mark S) e) (segment_inside S.at.proc S.at.place b.at.1 (covered S b.at.2)),
        omega (arith, b.at.2, H.few S.at.proc),
      )
      by Stage.fetch e b = b.cell
      by (marking k) e b = in_marking k e

  -- (d) reads the mark at the start that the process holds
  pub mark_read : (q : ℕ) {o : Op} {i : ℕ} {S : Seen} → R.watch.lane q ≡ busy o i (Stage.check_mark S)
      → R.words.pool (R.words.held q + G.shape.off S.at.place) ≡ M.marks S.at.proc S.at.place
  mark_read q {o} {i} {S} e = let b = busy_ok H.inv q e in
      ap (λ (x : ℕ). R.words.pool (x + G.shape.off S.at.place)) (H.layout.stages q o i (Stage.check_mark S) e)
      ∙ sym (H.layout.marks S.at.proc S.at.place b.at.1 b.at.2)
