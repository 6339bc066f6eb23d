-- What a step of process q leaves alone: the other lanes stay as they should.
-- Assumes nothing.
use Rattle.std.specs.Prelude.{◌≡◌, refl, ◌≢◌, ℕ, ◌<◌}
use Rattle.std.proofs.Common.{◌∙◌, arith}
use Rattle.std.proofs.Math.Path.{subst}
use Rattle.theory.specs.Array.{Op}
use Rattle.theory.specs.Machine.{Grid, Link, Seen, Marking, Stage, marking, Lane, idle, busy}
use Rattle.theory.specs.Standing.{After}
use Rattle.theory.specs.World.{World, Swapped}
use Rattle.theory.specs.Claims.{Writes}
use Rattle.theory.specs.Inv.{Judged, sure, dud, Making, Marked, MarkingOk, StageOk, LaneOk}
use Rattle.theory.specs.ClaimsKept.{NotStored, Frame, fresh_frame, sure_frame, dud_frame, mine_frame}

module _ {G : Grid} {old_link : ℕ → Link} {q : ℕ} {W W' : World} (F : Frame G old_link q W W') (r : ℕ) (ne : r ≢ q) where
  -- a swapped link stays
  swapped_frame : (i : ℕ) → Swapped G old_link W i → Swapped G old_link W' i
  swapped_frame i t = rw (F.link i t) t

  judged_frame : (o : Op) (i : ℕ) (g : Stage) (S : Seen) → After g → W.w.lane r ≡ busy o i g → Judged G old_link W r o i S → Judged G old_link W' r o i S
  judged_frame o i g S a e (sure t k s) = sure (swapped_frame i t) (F.link i t ∙ k) (sure_frame F r ne o i g a e s)
  judged_frame o i g S a e (dud k s) = dud k (dud_frame F r ne o i g a e s)

  making_frame : (i : ℕ) (S : Seen) (n : ℕ) → Making G old_link W.w.mem W.used r i S n → Making G old_link W'.w.mem W'.used r i S n
  making_frame i S n h = record { bad = h.bad; low = rw (F.in_force r ne) h.low; high = rw (F.used r ne) h.high }

  marked_frame : (i : ℕ) (S : Seen) (n : ℕ) → Marked G old_link W.w.mem W.used r i S n → Marked G old_link W'.w.mem W'.used r i S n
  marked_frame i S n h = record { bad = h.bad; high = rw (F.used r ne) h.high; there = F.marks r n ne ∙ h.there }

  marking_frame : (i : ℕ) (k : Marking) → MarkingOk G old_link W.w.mem W.used r i k → MarkingOk G old_link W'.w.mem W'.used r i k
  marking_frame i (Marking.draw s S n) h = (making_frame i S n h.0, h.1)
  marking_frame i (Marking.enter s S n) h = (making_frame i S n h.0, h.1)
  marking_frame i (Marking.tombstone S n) h = (making_frame i S n h.0, h.1)
  marking_frame i (Marking.mark S n) h = (making_frame i S n h.0, h.1)
  marking_frame i (Marking.force S n) h = (marked_frame i S n h.0, rw (F.in_force r ne) h.1)
  marking_frame i (Marking.swap S n) h = (marked_frame i S n h.0, F.in_force r ne ∙ h.1)
  marking_frame i (Marking.take_back n) h = (swapped_frame i h.0, F.in_force r ne ∙ h.1)

  upto : (S : Seen) → S.at.place < W.used S.at.proc → S.at.place < W'.used S.at.proc
  upto S h = omega (arith, F.up S.at.proc)

  stage_frame : (o : Op) (i : ℕ) (g : Stage) → W.w.lane r ≡ busy o i g → StageOk G old_link W r o i g → StageOk G old_link W' r o i g
  unfolding NotStored
  stage_frame o i Stage.store e h = (F.fresh r o i Stage.store ne e (λ j v s. s.2) h.0, h.1)
  stage_frame o i Stage.check_link e h = fresh_frame F r ne o i e h
  stage_frame o i (Stage.check_marks S) e h = (judged_frame o i (Stage.check_marks S) S tt e h.0, h.1)
  stage_frame o i (Stage.check_directory S) e h = (judged_frame o i (Stage.check_directory S) S tt e h.0, h.1, upto S h.2)
  stage_frame o i (Stage.check_mark S) e h = (judged_frame o i (Stage.check_mark S) S tt e h.0, h.1, upto S h.2)
  stage_frame o i Stage.fetch e h =
      (h.0, swapped_frame i h.1, F.fresh r o i Stage.fetch ne e (λ j v s. subst (λ x. Writes x v) h.0 s.0) h.2)
  stage_frame o i (marking k) e h = (mine_frame F r ne o i (marking k) tt e h.0, marking_frame i k h.1)

  lane_go : (l : Lane) → W.w.lane r ≡ l → LaneOk G old_link W r l → LaneOk G old_link W' r l
  lane_go idle e h = tt
  lane_go (busy o i g) e h =
      record { proc = h.proc; cell = h.cell; past = rw (F.since r o i g ne e) (omega (arith, h.past, F.now)); at = stage_frame o i g e h.at }

  pub lane_frame : LaneOk G old_link W r (W.w.lane r) → LaneOk G old_link W' r (W'.w.lane r)
  lane_frame h = rw (F.lane r ne) (lane_go (W.w.lane r) refl h)
