-- The invariant after a step of process q, from what the step does to its own lane, to the order and to the cells.
-- Assumes nothing.
use Rattle.std.specs.Prelude.{◌≡◌, refl, ◌⊎◌, ◌≢◌, true, ℕ, ◌≤◌, ◌<◌}
use Rattle.std.proofs.Common.{sym, ◌∙◌, ⊎_elim, arith}
use mathlib.Core.List.{List, Memᴰ}
use Rattle.std.proofs.Math.Decide.{ℕ_discrete}
use Rattle.theory.specs.Base.{upd, upd_same, upd_other}
use Rattle.theory.specs.Array.{Op}
use Rattle.theory.specs.Order.{Entry, value_in, written_in}
use Rattle.theory.specs.Machine.{Grid, Link, mk, Stage, busy, Mem, Next, next_lane}
use Rattle.theory.specs.Standing.{After, settled_at, settled}
use Rattle.theory.specs.World.{World, Swapped, Unplaced}
use Rattle.theory.specs.Claims.{Stored, Wrote}
use Rattle.theory.specs.Inv.{LaneOk, CellOk, old, new, LogOk, Inv}
use Rattle.theory.specs.Log.{turned}
use Rattle.theory.specs.ClaimsKept.{NotStored, Frame}
use Rattle.theory.specs.Frame.{lane_frame}

module _ {G : Grid} {old_link : ℕ → Link} {W : World} (I : Inv G old_link W) (q : ℕ) {o : Op} {i : ℕ} {g : Stage} (e : W.w.lane q ≡ busy o i g)
    (M : Mem) (used : ℕ → ℕ) (nx : Next) where
  -- what the step does to its own lane's numbers and marks
  pub record Own : Type 0 where
    pub in_force : (r : ℕ) → r ≢ q → M.in_force r ≡ W.w.mem.in_force r
    pub marks : (r n : ℕ) → r ≢ q → M.marks r n ≡ W.w.mem.marks r n
    pub used_other : (r : ℕ) → r ≢ q → used r ≡ W.used r
    pub up : W.used q ≤ used q
    pub rise : settled_at g (W.w.mem.in_force q) ≤ settled (next_lane o i nx) (M.in_force q)
    pub kept : (n : ℕ) → n < settled_at g (W.w.mem.in_force q) → M.marks q n ≡ W.w.mem.marks q n
    pub counts : (settled (next_lane o i nx) (M.in_force q) ≤ M.in_force q) × (M.in_force q ≤ used q)
    pub places : (n j : ℕ) → j < G.m → n < used q → M.marks q n ≡ G.code j → old_link j ≢ mk q n

  module _ (log : List Entry) (O : Own) where
    abbrev W' : World
    W' = turned W q o i M used nx log

    other : (r : ℕ) → r ≢ q → upd W.w.lane q (next_lane o i nx) r ≡ W.w.lane r
    other r ne = upd_other W.w.lane q (next_lane o i nx) r ne

    mine : upd W.w.lane q (next_lane o i nx) q ≡ next_lane o i nx
    mine = upd_same W.w.lane q (next_lane o i nx)

    pub rises : (r : ℕ) → settled (W.w.lane r) (W.w.mem.in_force r) ≤ settled (upd W.w.lane q (next_lane o i nx) r) (M.in_force r)
    rises r = by (ℕ_discrete r q)
      where
        by : Dec (r ≡ q) → settled (W.w.lane r) (W.w.mem.in_force r) ≤ settled (upd W.w.lane q (next_lane o i nx) r) (M.in_force r)
        by (yes k) = rw k (rw (mine, e) O.rise)
        by (no k) = rw (other r k, O.in_force r k) (omega arith)

    pub keeps : (r n : ℕ) → n < settled (W.w.lane r) (W.w.mem.in_force r) → M.marks r n ≡ W.w.mem.marks r n
    keeps r n h = by (ℕ_discrete r q)
      where
        by : Dec (r ≡ q) → M.marks r n ≡ W.w.mem.marks r n
        by (yes k) = rw k (O.kept n (rw e at (rw k at h)))
        by (no k) = O.marks r n k

    counts' : (r : ℕ) → (settled (upd W.w.lane q (next_lane o i nx) r) (M.in_force r) ≤ M.in_force r) × (M.in_force r ≤ used r)
    counts' r = by (ℕ_discrete r q)
      where
        by : Dec (r ≡ q) → (settled (upd W.w.lane q (next_lane o i nx) r) (M.in_force r) ≤ M.in_force r) × (M.in_force r ≤ used r)
        by (yes k) = rw k (rw mine O.counts)
        by (no k) = rw (other r k, O.in_force r k, O.used_other r k) (I.counts r)

    places' : (r n j : ℕ) → j < G.m → n < used r → M.marks r n ≡ G.code j → old_link j ≢ mk r n
    places' r n j hj = by (ℕ_discrete r q)
      where
        by : Dec (r ≡ q) → n < used r → M.marks r n ≡ G.code j → old_link j ≢ mk r n
        by (yes k) = rw k (O.places n j hj)
        by (no k) = rw (O.used_other r k, O.marks r n k) (I.places r n j hj)

    up' : (r : ℕ) → W.used r ≤ used r
    up' r = by (ℕ_discrete r q)
      where
        by : Dec (r ≡ q) → W.used r ≤ used r
        by (yes k) = rw k O.up
        by (no k) = rw (O.used_other r k) (omega arith)

    -- a lane that is busy after the step was busy before it
    was : (r : ℕ) (o₁ : Op) (i₁ : ℕ) (g₁ : Stage) → upd W.w.lane q (next_lane o i nx) r ≡ busy o₁ i₁ g₁
        → (o₂ : Op) × (i₂ : ℕ) × (g₂ : Stage) × (W.w.lane r ≡ busy o₂ i₂ g₂)
    was r o₁ i₁ g₁ k = by (ℕ_discrete r q)
      where
        by : Dec (r ≡ q) → (o₂ : Op) × (i₂ : ℕ) × (g₂ : Stage) × (W.w.lane r ≡ busy o₂ i₂ g₂)
        by (yes h) = (o, i, g, rw h e)
        by (no h) = (o₁, i₁, g₁, sym (other r h) ∙ k)

    pub complete_inv : Frame G old_link q W W' → LaneOk G old_link W' q (next_lane o i nx) → ((j : ℕ) → j < G.m → CellOk G old_link W' j)
        → LogOk G old_link W' → Inv G old_link W'
    complete_inv F l c lg = record { lanes = lanes'; cells = c; counts = counts'; places = places'; apart = apart'; logs = lg }
      where
        lanes' : (r : ℕ) → LaneOk G old_link W' r (upd W.w.lane q (next_lane o i nx) r)
        lanes' r = by (ℕ_discrete r q)
          where
            by : Dec (r ≡ q) → LaneOk G old_link W' r (upd W.w.lane q (next_lane o i nx) r)
            by (yes k) = rw k (rw mine l)
            by (no k) = lane_frame F r k (I.lanes r)

        apart' : (a r : ℕ) (o₁ o₂ : Op) (i₁ i₂ : ℕ) (g₁ g₂ : Stage) → W'.w.lane a ≡ busy o₁ i₁ g₁ → W'.w.lane r ≡ busy o₂ i₂ g₂
            → W.w.since a ≡ W.w.since r → a ≡ r
        apart' a r o₁ o₂ i₁ i₂ g₁ g₂ h k z = let x = was a o₁ i₁ g₁ h in
            let y = was r o₂ i₂ g₂ k in I.apart a r x.0 y.0 x.1 y.1 x.2 y.2 x.3 y.3 z

    -- the order is as it was, or longer by an entry of q's; swapped links and written cells stay
    pub record Quiet : Type 0 where
      pub more : (z : Entry) → Memᴰ z W.log → Memᴰ z log
      pub less : (z : Entry) → Memᴰ z log → Memᴰ z W.log ⊎ (z.began ≡ W.w.since q)
      pub same : (j : ℕ) → written_in log j ≡ written_in W.log j
      pub link : (j : ℕ) → Swapped G old_link W j → M.link j ≡ W.w.mem.link j

    pub quiet_frame : Quiet → Frame G old_link q W W'
    quiet_frame Q = record {
      lane = other;
      in_force = O.in_force;
      marks = O.marks;
      used = O.used_other;
      up = up';
      since = λ r o₁ i₁ g₁ ne k. refl;
      now = omega arith;
      link = Q.link;
      more = Q.more;
      fresh = fresh';
      wrote = wrote';
    }
      where
        un : (r : ℕ) (o₁ : Op) (i₁ : ℕ) (g₁ : Stage) → r ≢ q → W.w.lane r ≡ busy o₁ i₁ g₁ → Unplaced G old_link W r → Unplaced G old_link W' r
        un r o₁ i₁ g₁ ne k u z m b =
            ⊎_elim (λ (h : Memᴰ z W.log). u z h b) (λ (h : z.began ≡ W.w.since q). ne (I.apart r q o₁ o i₁ i g₁ g k e (sym b ∙ h)))
            (Q.less z m)

        fresh' : (r : ℕ) (o₁ : Op) (i₁ : ℕ) (g₁ : Stage) → r ≢ q → W.w.lane r ≡ busy o₁ i₁ g₁ → NotStored (busy o₁ i₁ g₁) → Unplaced G old_link W r
            → Unplaced G old_link W' r
        fresh' r o₁ i₁ g₁ ne k n u = un r o₁ i₁ g₁ ne k u

        wrote' : (r : ℕ) (o₁ : Op) (i₁ : ℕ) (g₁ : Stage) → r ≢ q → W.w.lane r ≡ busy o₁ i₁ g₁ → After g₁ → Wrote G old_link W r o₁ i₁
            → Wrote G old_link W' r o₁ i₁
        wrote' r o₁ i₁ g₁ ne k a h = record {
          v = h.v;
          is = h.is;
          new = λ t. let x = h.new (sym (Q.same i₁) ∙ t) in (x.0, Q.more _ x.1);
          old = λ t. un r o₁ i₁ g₁ ne k (h.old (sym (Q.same i₁) ∙ t));
        }

    -- cell j's words and the array there stay, and who has stored
    pub record Still (j : ℕ) : Type 0 where
      pub same : written_in log j ≡ written_in W.log j
      pub vals : value_in G.f log j ≡ value_in G.f W.log j
      pub link : M.link j ≡ W.w.mem.link j
      pub reading : M.reading j ≡ W.w.mem.reading j
      pub hold : (v : ℕ) → W.w.mem.link j ≡ old_link j → Stored (busy o i g) j v → Stored (next_lane o i nx) j v
      pub from : (v : ℕ) → Stored (next_lane o i nx) j v → Stored (busy o i g) j v

    -- a cell with a swapped link keeps its certificate
    pub certified : (j : ℕ) → M.link j ≡ W.w.mem.link j → written_in log j ≡ true → value_in G.f log j ≡ M.reading j → CellOk G old_link W j
        → Swapped G old_link W j → CellOk G old_link W' j
    certified j l t v (old t₀ k s) t₁ = absurd (t₁ k)
    certified j l t v (new t₀ y x p₀ p₁ p₂) t₁ =
        new (rw l t₁) t v (rw l p₀) (rw l (omega (arith, p₁, rises (W.w.mem.link j).proc)))
        (rw l (keeps (W.w.mem.link j).proc (W.w.mem.link j).place p₁ ∙ p₂))

    pub still_cell : (j : ℕ) → Still j → j < G.m → CellOk G old_link W' j
    still_cell j S hj = by (I.cells j hj)
      where
        to : (r v : ℕ) → W.w.mem.link j ≡ old_link j → Stored (W.w.lane r) j v → Stored (upd W.w.lane q (next_lane o i nx) r) j v
        to r v t s = go' (ℕ_discrete r q)
          where
            go' : Dec (r ≡ q) → Stored (upd W.w.lane q (next_lane o i nx) r) j v
            go' (yes k) = rw k (rw mine (S.hold v t (rw e at (rw k at s))))
            go' (no k) = rw (other r k) s

        fro : (r v : ℕ) → Stored (upd W.w.lane q (next_lane o i nx) r) j v → Stored (W.w.lane r) j v
        fro r v s = go' (ℕ_discrete r q)
          where
            go' : Dec (r ≡ q) → Stored (W.w.lane r) j v
            go' (yes k) = rw k (rw e (S.from v (rw mine at (rw k at s))))
            go' (no k) = rw (other r k) at s

        by : CellOk G old_link W j → CellOk G old_link W' j
        by (old t k s) =
            old (S.same ∙ t) (S.link ∙ k)
            (λ r v h. let x = s r v (fro r v h) in (x.0, rw S.reading (to x.0 (W.w.mem.reading j) (k) x.1)))
        by (new t y v p₀ p₁ p₂) = certified j S.link (S.same ∙ y) (S.vals ∙ v ∙ sym S.reading) (new t y v p₀ p₁ p₂) t
