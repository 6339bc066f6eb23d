-- Steps counted: how many steps of its own a process has taken at most when it stands at a stage.
-- Assumes nothing.
use Rattle.std.specs.Prelude.{◌≡◌, refl, ◌⊎◌, ◌≢◌, Bool, true, false, ℕ, zero, suc, ◌+◌, ◌-◌, ◌≤◌, ◌<◌}
use Rattle.std.proofs.Common.{ap, inl, inr, arith}
use Rattle.std.proofs.Math.Decide.{ℕ_discrete, dec_lt}
use Rattle.theory.specs.Base.{pick}
use Rattle.theory.specs.Array.{Op, read, asked, write, Writing}
use Rattle.theory.specs.Segments
use Rattle.theory.specs.Machine.{Grid, Link, mk, Seen, Marking, Stage, marking, busy, Mem, keep, set_link, Next, go, end}
use Rattle.theory.specs.Machine.{Turn, turn_to, poke, same_link, look, passed, plan, failed, mark_turn, take_turn}
use Rattle.theory.specs.Words.{Words}
use Rattle.theory.specs.World.{World}
use Rattle.theory.specs.Claims.{Writes, mine_writes}
use Rattle.theory.specs.Inv.{Clear, Inv}
use Rattle.theory.specs.Plan.{use_cases, plan_cases, past_tombstone}
use Rattle.theory.specs.Steps.{busy_ok}
use Rattle.theory.specs.Layout.{Layout}

-- a read ends by its own step 5, asked by 4, a write by 11
abbrev pub bound : Op → ℕ
bound read = 5
bound asked = 4
bound (write v) = 11

-- the steps before the check: a write stores
abbrev pub late : Op → ℕ
late read = 0
late asked = 0
late (write v) = 1

module _ (G : Grid) where
  -- process q, with d segments drawn, stands at rules 3 to 8 after t steps of its own
  abbrev pub TickIn : ℕ → ℕ → Op → Marking → ℕ → Type 0
  TickIn d q o (Marking.draw s S n) t = (S.at ≡ mk q n → t ≤ late o + 2) × (t ≤ late o + 4)
  TickIn d q o (Marking.enter s S n) t = (S.at ≡ mk q n → t ≤ late o + 3) × (t ≤ late o + 5)
  TickIn d q o (Marking.tombstone S n) t = (t ≤ late o + 4) × ((t ≤ late o + 2) ⊎ (G.shape.seg (suc n) < d))
  TickIn d q o (Marking.mark S n) t = t ≤ late o + 6
  TickIn d q o (Marking.force S n) t = t ≤ late o + 7
  TickIn d q o (Marking.swap S n) t = t ≤ late o + 8
  TickIn d q o (Marking.take_back n) t = t ≤ late o + 9

  -- and with c marks in force, at any stage
  abbrev pub TickOk : ℕ → ℕ → ℕ → Op → Stage → ℕ → Type 0
  TickOk c d q o Stage.store t = t ≤ 0
  TickOk c d q o Stage.check_link t = t ≤ late o
  TickOk c d q o (Stage.check_marks S) t = t ≤ late o + 1
  TickOk c d q o (Stage.check_directory S) t = (t ≤ late o + 2) × (S.at.proc ≡ q → S.at.place < c)
  TickOk c d q o (Stage.check_mark S) t = (t ≤ late o + 3) × (S.at.proc ≡ q → S.at.place < c)
  TickOk c d q o Stage.fetch t = t ≤ 4
  TickOk c d q o (marking k) t = TickIn d q o k t

  abbrev pub NxTick : ℕ → ℕ → ℕ → Op → Next → ℕ → Type 0
  NxTick c d q o (go g) t = TickOk c d q o g t
  NxTick c d q o (end a) t = t ≤ bound o

  nx_pick : {X : Type 0} (z : Dec X) (c d q : ℕ) (o : Op) (a b : Next) (t : ℕ) → (X → NxTick c d q o a t) → ((X → ⊥) → NxTick c d q o b t)
      → NxTick c d q o (pick z a b) t
  nx_pick (yes k) c d q o a b t ha hb = ha k
  nx_pick (no k) c d q o a b t ha hb = hb k

  plan_tick : (M : Mem) (q : ℕ) (o : Op) (s : Bool) (S : Seen) (n t : ℕ) → Clear s q S n → (S.at ≡ mk q n → t ≤ late o + 2) → t ≤ late o + 4
      → TickIn (M.drawn q) q o (plan G s M q S n) t
  plan_tick M q o s S n t cl h k =
      plan_cases (λ g. TickIn (M.drawn q) q o g t) s q S n G M cl (λ y u. (k, inl (h u))) (λ y u. omega arith) (λ y. (h, k))

  fail_tick : (M : Mem) (q : ℕ) (o : Op) (i : ℕ) (S : Seen) (t : ℕ) → t ≤ late o + 4 → (S.at ≡ mk q (M.in_force q) → t ≤ late o + 2)
      → NxTick (M.in_force q) (M.drawn q) q o (failed G M q o i S) t
  fail_tick M q read i S t h k = omega arith
  fail_tick M q asked i S t h k = omega arith
  fail_tick M q (write v) i S t h k = plan_tick M q (write v) false S (M.in_force q) t tt k h

  pass_tick : (c d q : ℕ) (o : Op) (t : ℕ) → t ≤ late o + 4 → NxTick c d q o (passed o) t
  pass_tick c d q read t h = omega arith
  pass_tick c d q asked t h = omega arith
  pass_tick c d q (write v) t h = omega arith

  -- what is left after the swap or the take-back
  rest_tick : (c d q : ℕ) (o : Op) (t : ℕ) → Writing o → t ≤ late o + 10 → NxTick c d q o (passed o) t
  rest_tick c d q read t w h = absurd w
  rest_tick c d q asked t w h = absurd w
  rest_tick c d q (write v) t w h = omega arith

  is_one : (o : Op) (v : ℕ) → Writes o v → late o ≡ 1
  is_one read v h = absurd h
  is_one asked v h = absurd h
  is_one (write x) v h = refl

module _ {G : Grid} {old_link : ℕ → Link} {W : World} (I : Inv G old_link W) {P : Words} {own : ℕ → Link} (Y : Layout G W P own) (q : ℕ) (o : Op) (i : ℕ) where
  abbrev M : Mem
  M = W.w.mem

  -- the own clock after a turn
  abbrev pub Ticked : Turn → ℕ → Type 0
  Ticked u t = NxTick G ((poke M q u.change).in_force q) ((poke M q u.change).drawn q) q o u.next (suc t)

  -- once a segment is entered the next place's segment is drawn too
  two_places : (s : Bool) (S : Seen) (n : ℕ) → W.w.lane q ≡ busy o i (marking (Marking.enter s S n)) → G.shape.seg (suc n) < M.drawn q
  two_places s S n e = by n e (busy_ok I q e).at.1.0.high
    where
      by : (n : ℕ) → W.w.lane q ≡ busy o i (marking (Marking.enter s S n)) → n ≤ W.used q → G.shape.seg (suc n) < M.drawn q
      by zero k h = omega (arith, Segments.seg_first G.shape, Segments.seg_second G.shape, (Y.stages q o i (marking (Marking.enter s S 0)) k).0)
      by (suc n) k h = let c : G.shape.seg n < M.drawn q - 1 = rw k at (Y.cover q n (omega arith)) in
          let d = (Y.stages q o i (marking (Marking.enter s S (suc n))) k).0 in
          omega (arith, Segments.seg_double G.shape n (omega arith), d)

  writes : {k : Marking} → W.w.lane q ≡ busy o i (marking k) → Writing o
  writes e = mine_writes G old_link W q o i (busy_ok I q e).at.0

  tick_marking : (k : Marking) (e : W.w.lane q ≡ busy o i (marking k)) (t : ℕ) → TickIn G (M.drawn q) q o k t
      → Ticked (mark_turn G M q o i k) t
  tick_marking (Marking.draw s S n) e t h = ((λ u. omega (arith, h.0 u)), omega (arith, h.1))
  tick_marking (Marking.enter s S n) e t h = use_cases (λ k. TickIn G (M.drawn q) q o k (suc t)) s q S n (busy_ok I q e).at.1.1
      (λ u. (omega (arith, h.0 u), inr (two_places s S n e))) (λ u. omega (arith, h.1))
  tick_marking (Marking.tombstone S n) e t h = by h.1
    where
      away : S.at ≢ mk q (suc n)
      away = past_tombstone q S n (busy_ok I q e).at.1.1

      by : (t ≤ late o + 2) ⊎ (G.shape.seg (suc n) < M.drawn q) → TickIn G (M.drawn q) q o (plan G true M q S (suc n)) (suc t)
      by (inl k) = plan_tick G M q o true S (suc n) (suc t) away (λ u. absurd (away u)) (omega arith)
      by (inr k) = plan_cases (λ g. TickIn G (M.drawn q) q o g (suc t)) true q S (suc n) G M away
          (λ y u. absurd (away u)) (λ y u. omega (arith, h.0)) (λ y. absurd (let z : ⊥ = omega arith in z))
  tick_marking (Marking.mark S n) e t h = omega arith
  tick_marking (Marking.force S n) e t h = omega arith
  tick_marking (Marking.swap S n) e t h = by (same_link (M.link i) S.at)
    where
      by : (z : Dec (M.link i ≡ S.at)) → Ticked (pick z (turn_to (set_link i (mk q n)) (passed o)) (turn_to keep (go (marking (Marking.take_back n))))) t
      by (yes k) = rest_tick G _ _ q o (suc t) (writes e) (omega arith)
      by (no k) = omega arith
  tick_marking (Marking.take_back n) e t h = rest_tick G _ _ q o (suc t) (writes e) (omega arith)

  -- the check goes on, passes or fails
  tick_test : {X : Type 0} (z : Dec X) (nx : Next) (S : Seen) (t : ℕ)
      → (X → NxTick G (M.in_force q) (M.drawn q) q o nx (suc t))
      → ((X → ⊥) → (suc t ≤ late o + 4) × (S.at ≡ mk q (M.in_force q) → suc t ≤ late o + 2))
      → Ticked (turn_to keep (pick z nx (failed G M q o i S))) t
  tick_test z nx S t h k = nx_pick G z (M.in_force q) (M.drawn q) q o nx (failed G M q o i S) (suc t) h
      (λ x. fail_tick G M q o i S (suc t) (k x).0 (k x).1)

  -- one step of the own clock
  pub tick : (g : Stage) (e : W.w.lane q ≡ busy o i g) (t : ℕ) → TickOk G (M.in_force q) (M.drawn q) q o g t
      → Ticked (take_turn G M q o i g) t
  tick Stage.store e t h = let b = busy_ok I q e in omega (arith, is_one G o b.at.1.0 b.at.1.1)
  tick Stage.check_link e t h = let S = look M i in
      tick_test (dec_lt S.at.proc G.p) (go (Stage.check_marks S)) S t (λ k. omega arith) (λ k. (omega arith, λ u. omega arith))
  tick (Stage.check_marks S) e t h = tick_test (dec_lt S.at.place (M.in_force S.at.proc)) (go (Stage.check_directory S)) S t
      (λ k. (omega arith, λ u. rw u at k)) (λ k. (omega arith, λ u. omega arith))
  tick (Stage.check_directory S) e t h = (omega (arith, h.0), h.1)
  tick (Stage.check_mark S) e t h = tick_test (ℕ_discrete (M.marks S.at.proc S.at.place) (G.code i)) (passed o) S t
      (λ k. pass_tick G (M.in_force q) (M.drawn q) q o (suc t) (omega (arith, h.0))) (λ k. (omega (arith, h.0), λ u. absurd (below u)))
    where
      below : S.at ≡ mk q (M.in_force q) → ⊥
      below u = let x = h.1 (ap (λ (y : Link). y.proc) u) in
          let z : S.at.place ≡ M.in_force q = ap (λ (y : Link). y.place) u in
          let y : ⊥ = omega arith in y
  tick Stage.fetch e t h = let b = busy_ok I q e in rw b.at.0 (omega arith)
  tick (marking k) e t h = tick_marking k e t h
