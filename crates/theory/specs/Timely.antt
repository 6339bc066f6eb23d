-- Steps counted along a run: each lane keeps the bounds of its stage.
-- Assumes nothing.
use Rattle.std.specs.Prelude.{◌≡◌, refl, ◌≢◌, ℕ, suc, ◌+◌, ◌≤◌, ◌<◌}
use Rattle.std.proofs.Common.{sym, ap, ◌∙◌, subst, arith}
use Rattle.std.proofs.Math.Decide.{ℕ_discrete}
use Rattle.theory.specs.Base.{upd, upd_same, upd_other}
use Rattle.theory.specs.Array.{Op, read, asked, write, Writing}
use Rattle.theory.specs.Machine.{Grid, Link, Marking, Stage, marking, Lane, busy, Mem, Change, keep, set_reading, set_link, set_in_force}
use Rattle.theory.specs.Machine.{set_drawn, set_mark, Next, go, end, poke, take_turn, Watch, first_stage, next_lane, started, stepped}
use Rattle.theory.specs.Words.{Words}
use Rattle.theory.specs.World.{World}
use Rattle.theory.specs.Claims.{mine_writes}
use Rattle.theory.specs.Inv.{StageOk, Inv}
use Rattle.theory.specs.Steps.{busy_ok}
use Rattle.theory.specs.Layout.{Layout}
use Rattle.theory.specs.Ticks
use Rattle.theory.specs.Ticks.{TickIn, TickOk, NxTick}

poke_in_force : (M : Mem) (q r : ℕ) (c : Change) → r ≢ q → (poke M q c).in_force r ≡ M.in_force r
poke_in_force M q r keep ne = refl
poke_in_force M q r (set_reading j v) ne = refl
poke_in_force M q r (set_link j L) ne = refl
poke_in_force M q r (set_in_force n) ne = upd_other M.in_force q n r ne
poke_in_force M q r (set_drawn n) ne = refl
poke_in_force M q r (set_mark n v) ne = refl

poke_drawn : (M : Mem) (q r : ℕ) (c : Change) → r ≢ q → (poke M q c).drawn r ≡ M.drawn r
poke_drawn M q r keep ne = refl
poke_drawn M q r (set_reading j v) ne = refl
poke_drawn M q r (set_link j L) ne = refl
poke_drawn M q r (set_in_force n) ne = refl
poke_drawn M q r (set_drawn n) ne = upd_other M.drawn q n r ne
poke_drawn M q r (set_mark n v) ne = refl

module _ (G : Grid) where
  unfoldable pub Timely : Watch → (ℕ → ℕ) → Type 0
  Timely w taken = (q : ℕ) (o : Op) (i : ℕ) (g : Stage) → w.lane q ≡ busy o i g → TickOk G (w.mem.in_force q) (w.mem.drawn q) q o g (taken q)

  first_tick : (c d q : ℕ) (o : Op) → TickOk G c d q o (first_stage o) 0
  first_tick c d q read = omega arith
  first_tick c d q asked = omega arith
  first_tick c d q (write v) = omega arith

  pub timely_start : (w : Watch) (taken : ℕ → ℕ) → Timely w taken → (q : ℕ) (o : Op) (i : ℕ) → Timely (started w q o i) (upd taken q 0)
  unfolding Timely
  timely_start w taken T q o i r o₁ i₁ g₁ k = by (ℕ_discrete r q)
    where
      l : Lane
      l = busy o i (first_stage o)

      by : Dec (r ≡ q) → TickOk G (w.mem.in_force r) (w.mem.drawn r) r o₁ g₁ (upd taken q 0 r)
      by (yes h) = let u : busy o i (first_stage o) ≡ busy o₁ i₁ g₁ = sym (upd_same w.lane q l) ∙ ap (upd w.lane q l) (sym h) ∙ k in
          let ho : o ≡ o₁ = cc in
          let hg : first_stage o ≡ g₁ = cc in
          subst (λ (x : ℕ). TickOk G (w.mem.in_force r) (w.mem.drawn r) r o₁ g₁ x) (sym (ap (upd taken q 0) h ∙ upd_same taken q 0))
          (subst (λ (x : Op). TickOk G (w.mem.in_force r) (w.mem.drawn r) r x g₁ 0) ho
          (subst (λ (x : Stage). TickOk G (w.mem.in_force r) (w.mem.drawn r) r o x 0) hg (first_tick (w.mem.in_force r) (w.mem.drawn r) r o)))
      by (no h) = rw (upd_other taken q 0 r h) (T r o₁ i₁ g₁ (sym (upd_other w.lane q l r h) ∙ k))

module _ {G : Grid} {old_link : ℕ → Link} {W : World} (I : Inv G old_link W) {P : Words} {own : ℕ → Link} (Y : Layout G W P own) where
  abbrev after : ℕ → Op → ℕ → Stage → Mem
  after q o i g = poke W.w.mem q (take_turn G W.w.mem q o i g).change

  -- one step of q, counted
  pub timely_step : (taken : ℕ → ℕ) → Timely G W.w taken → (q : ℕ) (o : Op) (i : ℕ) (g : Stage) → W.w.lane q ≡ busy o i g
      → Timely G (stepped W.w q o i (take_turn G W.w.mem q o i g)) (upd taken q (suc (taken q)))
  unfolding Timely
  timely_step taken T q o i g e r o₁ i₁ g₁ k = by (ℕ_discrete r q)
    where
      nx : Next
      nx = (take_turn G W.w.mem q o i g).next

      M : Mem
      M = after q o i g

      which : (n : Next) (t : ℕ) → next_lane o i n ≡ busy o₁ i₁ g₁ → NxTick G (M.in_force q) (M.drawn q) q o n t
          → TickOk G (M.in_force q) (M.drawn q) q o₁ g₁ t
      which (go g₂) t h y = let ho : o ≡ o₁ = cc in
          let hg : g₂ ≡ g₁ = cc in
          subst (λ (x : Op). TickOk G (M.in_force q) (M.drawn q) q x g₁ t) ho (subst (λ (x : Stage). TickOk G (M.in_force q) (M.drawn q) q o x t) hg y)
      which (end a) t h y = absurd (let z : ◌≡◌ {A = ℕ} 0 1 = cc in omega arith)

      mine : upd W.w.lane q (next_lane o i nx) q ≡ busy o₁ i₁ g₁ → TickOk G (M.in_force q) (M.drawn q) q o₁ g₁ (upd taken q (suc (taken q)) q)
      mine h = rw (upd_same taken q (suc (taken q)))
          (which nx (suc (taken q)) (sym (upd_same W.w.lane q (next_lane o i nx)) ∙ h) (Ticks.tick I Y q o i g e (taken q) (T q o i g e)))

      by : Dec (r ≡ q) → TickOk G (M.in_force r) (M.drawn r) r o₁ g₁ (upd taken q (suc (taken q)) r)
      by (yes h) = subst (λ (x : ℕ). TickOk G (M.in_force x) (M.drawn x) x o₁ g₁ (upd taken q (suc (taken q)) x)) (sym h)
          (mine (ap (upd W.w.lane q (next_lane o i nx)) (sym h) ∙ k))
      by (no h) = let u = (take_turn G W.w.mem q o i g).change in
          rw (poke_in_force W.w.mem q r u h, poke_drawn W.w.mem q r u h, upd_other taken q (suc (taken q)) r h)
          (T r o₁ i₁ g₁ (sym (upd_other W.w.lane q (next_lane o i nx) r h) ∙ k))

  -- an operation under way has taken fewer steps of its own than its bound
  pub tick_bound : (q : ℕ) (o : Op) (i : ℕ) (g : Stage) → W.w.lane q ≡ busy o i g → (t : ℕ)
      → TickOk G (W.w.mem.in_force q) (W.w.mem.drawn q) q o g t → t < Ticks.bound o
  tick_bound q o i g e t h = by g (busy_ok I q e).at h
    where
      small : (o : Op) → Ticks.late o + 3 < Ticks.bound o
      small read = omega arith
      small asked = omega arith
      small (write v) = omega arith

      marked : (k : Marking) → TickIn G (W.w.mem.drawn q) q o k t → t ≤ Ticks.late o + 9
      marked (Marking.draw s S n) h = omega (arith, h.1)
      marked (Marking.enter s S n) h = omega (arith, h.1)
      marked (Marking.tombstone S n) h = omega (arith, h.0)
      marked (Marking.mark S n) h = omega arith
      marked (Marking.force S n) h = omega arith
      marked (Marking.swap S n) h = omega arith
      marked (Marking.take_back n) h = h

      rest : (o : Op) → Writing o → Ticks.late o + 9 < Ticks.bound o
      rest read w = absurd w
      rest asked w = absurd w
      rest (write v) w = omega arith

      by : (g : Stage) → StageOk G old_link W q o i g → TickOk G (W.w.mem.in_force q) (W.w.mem.drawn q) q o g t → t < Ticks.bound o
      by Stage.store b h = omega (arith, small o)
      by Stage.check_link b h = omega (arith, small o)
      by (Stage.check_marks S) b h = omega (arith, small o)
      by (Stage.check_directory S) b h = omega (arith, small o, h.0)
      by (Stage.check_mark S) b h = omega (arith, small o, h.0)
      by Stage.fetch b h = rw b.0 (omega arith)
      by (marking k) b h = omega (arith, marked k h, rest o (mine_writes G old_link W q o i b.0))
