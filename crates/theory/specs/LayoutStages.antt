-- A step of any stage keeps the layout, and so does a beginning.
-- Assumes nothing.
use Rattle.std.specs.Prelude.{◌≡◌, refl, Bool, true, false, List, ℕ, zero, suc, ◌≤◌, ◌<◌}
use Rattle.std.proofs.Common.{sym, ap, ◌∙◌, subst, arith}
use Rattle.std.proofs.Math.Decide.{ℕ_discrete, dec_lt}
use Rattle.theory.specs.Base.{pick, upd, upd_same, upd_other}
use Rattle.theory.specs.Array.{Op, read, asked, write}
use Rattle.theory.specs.Order.{Entry}
use Rattle.theory.specs.Segments.{seg_first, seg_next}
use Rattle.theory.specs.Machine.{Grid, Link, mk, Seen, Marking, Stage, marking, Lane, idle, busy, Mem, keep, set_link}
use Rattle.theory.specs.Machine.{Next, go, end, Turn, turn_to, same_link, word_of, use_place, look, fetched, passed, plan, failed, mark_turn, take_turn}
use Rattle.theory.specs.Machine.{first_stage, next_lane, started, stepped}
use Rattle.theory.specs.Words.{Words, after_stamp, words_marked, words_after}
use Rattle.theory.specs.Standing.{ready_at, ready, used_next}
use Rattle.theory.specs.World.{World}
use Rattle.theory.specs.Inv.{Clear, BusyOk, Inv}
use Rattle.theory.specs.Plan
use Rattle.theory.specs.Steps.{busy_ok}
use Rattle.theory.specs.Layout.{LayoutIn, LayoutAt, Layout}
use Rattle.theory.specs.LayoutAside.{NextAt}
use Rattle.theory.specs.LayoutSteps

module _ {G : Grid} {old_link : ℕ → Link} {W : World} (I : Inv G old_link W) {P : Words} {own : ℕ → Link} (Y : Layout G W P own) (q : ℕ) (o : Op) (i : ℕ) where
  abbrev M : Mem
  M = W.w.mem

  -- what a next stage has to meet
  abbrev NxLay : Next → Type 0
  NxLay nx = (ready (next_lane o i nx) (M.drawn q) ≡ M.drawn q) × NextAt I Y q o i M.drawn P own nx

  nx_pick : {X : Type 0} (z : Dec X) (a b : Next) → NxLay a → NxLay b → NxLay (pick z a b)
  nx_pick (yes k) a b ha hb = ha
  nx_pick (no k) a b ha hb = hb

  -- the segment of the next place is drawn, or the next to be drawn
  seg_le : (g : Stage) → W.w.lane q ≡ busy o i g → ready_at g (M.drawn q) ≡ M.drawn q → (n : ℕ) → n ≤ W.used q
      → G.shape.seg n ≤ M.drawn q
  seg_le g e hr zero h = rw (seg_first G.shape) (omega arith)
  seg_le g e hr (suc n) h = let y : G.shape.seg n < ready_at g (M.drawn q) = rw e at (Y.cover q n (omega arith)) in
      omega (arith, seg_next G.shape n, hr, y)

  -- a marking that may follow, whatever was stored
  abbrev MarkLay : Words → Marking → Type 0
  MarkLay P' k = (ready_at (marking k) (M.drawn q) ≡ M.drawn q) × LayoutIn G M.drawn P' own q k

  -- the three that follow, where the place's segment is drawn or the next to be drawn
  plan_lay : (P' : Words) (s : Bool) (S : Seen) (n : ℕ) → Clear s q S n → G.shape.seg n ≤ M.drawn q → MarkLay P' (plan G s M q S n)
  plan_lay P' s S n c h =
      Plan.plan_cases (λ k. MarkLay P' k) s q S n G M c (λ y k. (refl, y)) (λ y k. (refl, y)) (λ y. (refl, omega arith))

  fail_lay : (g : Stage) → W.w.lane q ≡ busy o i g → ready_at g (M.drawn q) ≡ M.drawn q → (o₁ : Op) (S : Seen)
      → NxLay (failed G M q o₁ i S)
  fail_lay g e hr read S = (refl, tt)
  fail_lay g e hr asked S = (refl, tt)
  fail_lay g e hr (write v) S = plan_lay P false S (M.in_force q) tt (seg_le g e hr (M.in_force q) (I.counts q).1)

  pass_lay : (o₁ : Op) → NxLay (passed o₁)
  pass_lay read = (refl, tt)
  pass_lay asked = (refl, tt)
  pass_lay (write v) = (refl, tt)

  -- the layout after a turn
  abbrev Laid : Turn → (ℕ → ℕ) → Words → List Entry → Type 0
  Laid t used P' log = (own' : ℕ → Link) × Layout G (record { w = stepped W.w q o i t; log = log; used = used }) P' own'

  -- a turn that changes neither marks nor draws
  lay_same : (g : Stage) → W.w.lane q ≡ busy o i g → (nx : Next) → ready (next_lane o i nx) (M.drawn q) ≡ ready_at g (M.drawn q)
      → NextAt I Y q o i M.drawn P own nx → (log : List Entry) → Laid (turn_to keep nx) W.used P log
  lay_same g e nx hr hn log = (own, LayoutSteps.lay_keep I Y q o i g e nx M.reading M.link M.in_force log hr hn)

  lay_marking : (k : Marking) → W.w.lane q ≡ busy o i (marking k) → (log : List Entry)
      → Laid (mark_turn G M q o i k) (used_next W.used q (marking k)) (words_marked G P q i k) log
  lay_marking (Marking.draw s S n) e log = (LayoutSteps.given I Y q o i own n, LayoutSteps.lay_draw I Y q o i s S n e log)
  lay_marking (Marking.enter s S n) e log = (own, LayoutSteps.lay_enter I Y q o i s S n e (use_place s q S n) u.0 log u.1)
    where
      drawn : G.shape.seg n < M.drawn q
      drawn = omega (arith, (Y.stages q o i (marking (Marking.enter s S n)) e).0)

      u : MarkLay (words_marked G P q i (Marking.enter s S n)) (use_place s q S n)
      u = Plan.use_cases (λ k. MarkLay (words_marked G P q i (Marking.enter s S n)) k) s q S n (busy_ok I q e).at.1.1
          (λ k. (refl, drawn)) (λ k. (refl, drawn))
  lay_marking (Marking.tombstone S n) e log =
      (own, LayoutSteps.lay_stamp I Y q o i (Marking.tombstone S n) e n G.grave b.proc b.at.1.0.high refl drawn k' u.0 log u.1)
    where
      b : BusyOk G old_link W q o i (marking (Marking.tombstone S n))
      b = busy_ok I q e

      drawn : G.shape.seg n < M.drawn q
      drawn = Y.stages q o i (marking (Marking.tombstone S n)) e

      k' : Marking
      k' = plan G true M q S (suc n)

      u : MarkLay (after_stamp G P q n G.grave) (plan G true M q S (suc n))
      u = plan_lay (after_stamp G P q n G.grave) true S (suc n) (Plan.past_tombstone q S n b.at.1.1) (omega (arith, seg_next G.shape n, drawn))
  lay_marking (Marking.mark S n) e log = let b = busy_ok I q e in let drawn = Y.stages q o i (marking (Marking.mark S n)) e in
      (own, LayoutSteps.lay_stamp I Y q o i (Marking.mark S n) e n (G.code i) b.proc b.at.1.0.high refl drawn (Marking.force S n) refl log tt)
  lay_marking (Marking.force S n) e log = (
    own,
    LayoutSteps.lay_keep I Y q o i (marking (Marking.force S n)) e (go (marking (Marking.swap S n))) M.reading M.link
        (upd M.in_force q (suc n)) log refl tt,
  )
  lay_marking (Marking.swap S n) e log = by (same_link (M.link i) S.at)
    where
      by : (z : Dec (M.link i ≡ S.at))
          → Laid (pick z (turn_to (set_link i (mk q n)) (passed o)) (turn_to keep (go (marking (Marking.take_back n))))) W.used P log
      by (yes k) = (
        own,
        LayoutSteps.lay_keep I Y q o i (marking (Marking.swap S n)) e (passed o) M.reading (upd M.link i (mk q n)) M.in_force
            log (pass_lay o).0 (pass_lay o).1,
      )
      by (no k) = lay_same (marking (Marking.swap S n)) e (go (marking (Marking.take_back n))) refl tt log
  lay_marking (Marking.take_back n) e log = (
    own,
    LayoutSteps.lay_keep I Y q o i (marking (Marking.take_back n)) e (passed o) M.reading M.link (upd M.in_force q n)
        log (pass_lay o).0 (pass_lay o).1,
  )

  -- the check goes on, passes or fails
  lay_test : {X : Type 0} (z : Dec X) (g : Stage) → W.w.lane q ≡ busy o i g → ready_at g (M.drawn q) ≡ M.drawn q → (nx : Next) → NxLay nx
      → (S : Seen) (log : List Entry) → Laid (turn_to keep (pick z nx (failed G M q o i S))) W.used P log
  lay_test z g e hr nx hn S log = let h = nx_pick z nx (failed G M q o i S) hn (fail_lay g e hr o S) in
      lay_same g e (pick z nx (failed G M q o i S)) (h.0 ∙ sym hr) h.1 log

  pub lay_stage : (g : Stage) → W.w.lane q ≡ busy o i g → (log : List Entry)
      → Laid (take_turn G M q o i g) (used_next W.used q g) (words_after G P q i g) log
  lay_stage Stage.store e log = (
    own,
    LayoutSteps.lay_keep I Y q o i Stage.store e (go Stage.check_link) (upd M.reading i (word_of o)) M.link M.in_force
        log refl tt,
  )
  lay_stage Stage.check_link e log = let S = look M i in
      lay_test (dec_lt S.at.proc G.p) Stage.check_link e refl (go (Stage.check_marks S)) (refl, tt) S log
  lay_stage (Stage.check_marks S) e log =
      lay_test (dec_lt S.at.place (M.in_force S.at.proc)) (Stage.check_marks S) e refl (go (Stage.check_directory S)) (refl, tt) S log
  lay_stage (Stage.check_directory S) e log = (own, LayoutSteps.lay_directory I Y q o i S e log)
  lay_stage (Stage.check_mark S) e log =
      lay_test (ℕ_discrete (M.marks S.at.proc S.at.place) (G.code i)) (Stage.check_mark S) e refl (passed o) (pass_lay o) S log
  lay_stage Stage.fetch e log = lay_same Stage.fetch e (end (fetched M i)) refl tt log
  lay_stage (marking k) e log = lay_marking k e log

pub lay_begin : {G : Grid} {W : World} {P : Words} {own : ℕ → Link} → Layout G W P own → (q : ℕ) (o : Op) (i : ℕ) → W.w.lane q ≡ idle
    → Layout G (record { w = started W.w q o i; log = W.log; used = W.used }) P own
lay_begin {G} {W} {P} {own} Y q o i free = record {
  marks = Y.marks;
  cover = λ r n h. rw (hs r) (Y.cover r n h);
  owned = λ r s hr h. Y.owned r s hr (rw (hs r) at h);
  stages = stages';
}
  where
    l : Lane
    l = busy o i (first_stage o)

    first_ready : (o : Op) (d : ℕ) → ready_at (first_stage o) d ≡ d
    first_ready read d = refl
    first_ready asked d = refl
    first_ready (write v) d = refl

    first_lay : (o : Op) → LayoutAt G W.w.mem.drawn P own q (first_stage o)
    first_lay read = tt
    first_lay asked = tt
    first_lay (write v) = tt

    hs : (r : ℕ) → ready (upd W.w.lane q l r) (W.w.mem.drawn r) ≡ ready (W.w.lane r) (W.w.mem.drawn r)
    hs r = by (ℕ_discrete r q)
      where
        by : Dec (r ≡ q) → ready (upd W.w.lane q l r) (W.w.mem.drawn r) ≡ ready (W.w.lane r) (W.w.mem.drawn r)
        by (yes h) = rw h (rw (upd_same W.w.lane q l, free) (first_ready o (W.w.mem.drawn q)))
        by (no h) = rw (upd_other W.w.lane q l r h)

    stages' : (r : ℕ) (o₁ : Op) (i₁ : ℕ) (g₁ : Stage) → upd W.w.lane q l r ≡ busy o₁ i₁ g₁ → LayoutAt G W.w.mem.drawn P own r g₁
    stages' r o₁ i₁ g₁ k = by (ℕ_discrete r q)
      where
        by : Dec (r ≡ q) → LayoutAt G W.w.mem.drawn P own r g₁
        by (yes h) = let u : busy o i (first_stage o) ≡ busy o₁ i₁ g₁ = sym (upd_same W.w.lane q l) ∙ ap (upd W.w.lane q l) (sym h) ∙ k in
            let z : first_stage o ≡ g₁ = cc in
            subst (λ (y : ℕ). LayoutAt G W.w.mem.drawn P own y g₁) (sym h) (subst (λ (y : Stage). LayoutAt G W.w.mem.drawn P own q y) z (first_lay o))
        by (no h) = Y.stages r o₁ i₁ g₁ (sym (upd_other W.w.lane q l r h) ∙ k)
