-- In a good state with no operation under way: the proof's order is of finished operations, and each cell shows the array's value.
-- Assumes nothing.
use Rattle.std.specs.Prelude.{ℕ, ◌+◌, ◌<◌, ◌≡◌, refl, ◌≢◌, eqb, get_or, Option, Some}
use Rattle.std.proofs.Common.{sym, ap, ◌∙◌, subst, inl, arith, eq-eqb, ne_eqb}
use mathlib.Core.List.{List, Memᴰ}
use Rattle.std.proofs.Math.Decide.{dec_lt}
use Rattle.numbers.specs.Numbers.{most_segments, segment_of, offset_of, process_of, place_of}
use Rattle.numbers.specs.Cells.{mark_of, cell_at}
use Rattle.logic.specs.Pick.{pick}
use Rattle.lanes.specs.Ranges.{lane_of}
use Rattle.steps.specs.Steps.{start_of}
use Rattle.quiet.specs.Quiet.{quarter_as}
use Rattle.quiet.specs.Quiet.{looked_at, reading_as, reading_at}
use Rattle.quiet.specs.Looked.{no_process, not_in_force, by_mark}
use Rattle.theory.proofs.Interface as Theory
use Rattle.demands.specs.Types.{Cell, State, Memory, Found}
use Rattle.demands.specs.Book.{Doing, nothing, busy, Book}
use Rattle.demands.specs.Demand2.{OneOrder}
use Rattle.bridge.specs.Shadow.{grid_of, lane_for, starts_in}
use Rattle.bridge.proofs.ShadowLaws.{pick_yes}
use Rattle.bridge.proofs.Good.{Good, law, behind, at_work_lem}
use Rattle.resting.specs.AtRest.{Tells, filled}

module _ {s : State} {mem : Memory} {b : Book} (H : Good s mem b) (rest : (q : ℕ) → q < s.terms.p → b.doing q ≡ nothing) where
  -- a process beyond p has nothing to do either
  pub nobody : (q : ℕ) → b.doing q ≡ nothing
  nobody q = by (b.doing q) refl
    where
      by : (d : Doing) → b.doing q ≡ d → b.doing q ≡ nothing
      by nothing e = e
      by (busy began o i taken) e = rest q (Theory.process_fits (law H) H.whole q (at_work_lem H q e))

  still : (q : ℕ) → (behind H).watch.lane q ≡ Theory.idle
  still q = ap (λ (d : Doing). lane_for d (lane_of s q).op) (nobody q)

  -- ---- the order

  abbrev pub order : List Theory.Entry
  order = H.whole.log

  pub all_finished : (e : Theory.Entry) → Memᴰ e order → (d : Theory.Done) × Memᴰ d b.ended × Theory.Is e d
  all_finished = Theory.all_ended H.whole still

  abbrev pub the_order : OneOrder (filled s.terms) b
  the_order = record {
    order = order;
    orderly = H.whole.inv.logs.orderly;
    complete = H.whole.inv.logs.complete;
    sound = λ e m. inl (all_finished e m);
  }

  -- ---- a cell

  module _ (i : ℕ) (hi : i < s.terms.m) where
    abbrev cell : Cell
    cell = cell_at s.terms i

    abbrev link : ℕ
    link = get_or mem.links i 0

    abbrev r : ℕ
    r = process_of link

    abbrev n : ℕ
    n = place_of link

    -- where the place's segment starts
    abbrev at : ℕ
    at = starts_in mem.directory r (segment_of n)

    abbrev finds : Option Found
    finds = looked_at s cell mem.links mem.directory mem.pool

    -- a place in force: the check ends by its mark
    in_force_lem : r < s.terms.p → n < (lane_of s r).marks → finds ≡ Some (pick (eqb (H.marks r n) (mark_of cell)) Found.Written (Found.NotWritten link))
    in_force_lem hr hn =
        by_mark s cell mem.links mem.directory mem.pool hr H.bounds.p_high (H.marks r n) hn
        (omega (arith, H.lengths.pool, start, T.1.0))
        (ap (λ (x : ℕ). get_or mem.pool (x + offset_of n) 0) start ∙ T.2)
      where
        T : (segment_of n < most_segments) × Theory.Inside (grid_of s.terms) at n × (get_or mem.pool (at + offset_of n) 0 ≡ H.marks r n)
        T = Theory.place_read (law H) H.whole r n hr hn

        start : start_of mem.directory r n ≡ at
        start = sym (pick_yes (dec_lt (segment_of n) most_segments) (start_of mem.directory r n) 0 T.0)

    found_unwritten : (r < s.terms.p → n < (lane_of s r).marks → H.marks r n ≢ mark_of cell) → finds ≡ Some (Found.NotWritten link)
    found_unwritten other = by (dec_lt r s.terms.p) (dec_lt n (lane_of s r).marks)
      where
        by : Dec (r < s.terms.p) → Dec (n < (lane_of s r).marks) → finds ≡ Some (Found.NotWritten link)
        by (no x) d = no_process s cell mem.links mem.directory mem.pool (omega arith)
        by (yes x) (no y) = not_in_force s cell mem.links mem.directory mem.pool x H.bounds.p_high (omega arith)
        by (yes x) (yes y) = in_force_lem x y ∙ rw (ne_eqb (H.marks r n) (mark_of cell) (other x y))

    found_written : r < s.terms.p → n < (lane_of s r).marks → H.marks r n ≡ mark_of cell → finds ≡ Some Found.Written
    found_written hr hn e = in_force_lem hr hn ∙ rw (eq-eqb (H.marks r n) (mark_of cell) e)

    tells_array : Theory.CellAtRest H.whole i → Tells finds (Theory.written_in order i)
    tells_array (Theory.unwritten w v other) = subst (λ (f : Option Found). Tells f (Theory.written_in order i)) (sym (found_unwritten other)) w
    tells_array (Theory.written w v hr hn e) = subst (λ (f : Option Found). Tells f (Theory.written_in order i)) (sym (found_written hr hn e)) w

    abbrev Reads : Type 0
    Reads = reading_at s cell mem ≡ Some (quarter_as (Theory.value_in (filled s.terms) order i) (Theory.written_in order i))

    reads_array : Theory.CellAtRest H.whole i → Reads
    reads_array (Theory.unwritten w v other) = ap (reading_as s cell mem.readings) (found_unwritten other) ∙ rw (v, w)
    reads_array (Theory.written w v hr hn e) = ap (reading_as s cell mem.readings) (found_written hr hn e) ∙ rw (v, w)

    pub written_shown : Tells finds (Theory.written_in order i)
    written_shown = tells_array (Theory.cell_at_rest H.whole still i hi)

    pub reading_shown : Reads
    reading_shown = reads_array (Theory.cell_at_rest H.whole still i hi)
