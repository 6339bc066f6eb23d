-- The account: every place in front of a lane is owed to a cell for which a write has begun, by its link or by its old link.
-- Assumes nothing.
use Rattle.std.specs.Prelude.{◌≡◌, ◌⊎◌, ◌≢◌, ℕ, suc, ◌+◌, ◌^◌, ◌≤◌, ◌<◌}
use Rattle.std.proofs.Common.{sym, ap, ◌∙◌, inl, inr, ⊎_elim, arith}
use Rattle.std.proofs.Math.Decide.{ℕ_discrete}
use Rattle.theory.specs.Base.{upd, upd_same, upd_other}
use Rattle.theory.specs.Array.{Op, Writing}
use Rattle.theory.specs.Machine.{Grid, Link, mk, Stage, busy, Mem, Next, go, end, Watch, next_lane, finish}
use Rattle.theory.specs.Run.{Tally}
use Rattle.theory.specs.Standing.{front_at, front}

module _ (G : Grid) (old_link : ℕ → Link) (T : Tally) where
  -- place k of lane q is owed to cell i
  pub record Owed (M : Mem) (q k : ℕ) : Type 0 where
    pub i : ℕ
    pub cell : i < G.m
    pub begun : T.cells i ≡ 1
    pub which : ((M.link i ≡ mk q k) × (old_link i ≢ mk q k)) ⊎ (old_link i ≡ mk q k)

  pub record Drawn (M : Mem) (q : ℕ) : Type 0 where
    pub n : ℕ
    pub small : (2 ^ M.drawn q ≤ n + 1) ⊎ ((2 ^ M.drawn q ≤ n + 2) × (T.procs q ≡ 1))
    pub owed : (k : ℕ) → k < n → Owed M q k

  pub record Account (w : Watch) : Type 0 where
    pub begun : (q : ℕ) (o : Op) (i : ℕ) (g : Stage) → w.lane q ≡ busy o i g → Writing o → (T.cells i ≡ 1) × (T.procs q ≡ 1)
    pub fronts : (q k : ℕ) → k < front (w.lane q) (w.mem.in_force q) → Owed w.mem q k
    pub draws : (q : ℕ) → Drawn w.mem q
    pub wrote : (i : ℕ) → i < G.m → w.mem.link i ≢ old_link i → T.cells i ≡ 1

  -- links change only away from the old one, and by a write that was counted
  abbrev pub Forward : Mem → Mem → Type 0
  Forward M M' = (j : ℕ) → (M'.link j ≡ M.link j) ⊎ ((M.link j ≡ old_link j) × (T.cells j ≡ 1))

pub owed_forward : {G : Grid} {old_link : ℕ → Link} {T : Tally} {M M' : Mem} {q k : ℕ} → Forward G old_link T M M' → Owed G old_link T M q k
    → Owed G old_link T M' q k
owed_forward {G} {old_link} {T} {M} {M'} {q} {k} F h = record { i = h.i; cell = h.cell; begun = h.begun; which = by h.which (F h.i) }
  where
    by : ((M.link h.i ≡ mk q k) × (old_link h.i ≢ mk q k)) ⊎ (old_link h.i ≡ mk q k)
        → (M'.link h.i ≡ M.link h.i) ⊎ ((M.link h.i ≡ old_link h.i) × (T.cells h.i ≡ 1))
        → ((M'.link h.i ≡ mk q k) × (old_link h.i ≢ mk q k)) ⊎ (old_link h.i ≡ mk q k)
    by (inr z) f = inr z
    by (inl z) (inl f) = inl (f ∙ z.0, z.1)
    by (inl z) (inr f) = absurd (z.1 (sym f.0 ∙ z.0))

module _ {G : Grid} {old_link : ℕ → Link} {T : Tally} {w : Watch} (A : Account G old_link T w) (q : ℕ) {o : Op} {i : ℕ} {g : Stage}
    (e : w.lane q ≡ busy o i g) (M : Mem) (nx : Next) where
  -- a step of q, from what it does to its own lane
  pub acc_step : Forward G old_link T w.mem M → ((r : ℕ) → r ≢ q → M.in_force r ≡ w.mem.in_force r) → ((r : ℕ) → r ≢ q → M.drawn r ≡ w.mem.drawn r)
      → ((k : ℕ) → k < front (next_lane o i nx) (M.in_force q) → (k < front_at g (w.mem.in_force q)) ⊎ Owed G old_link T M q k)
      → ((M.drawn q ≡ w.mem.drawn q) ⊎ Drawn G old_link T M q)
      → Account G old_link T (record { mem = M; lane = upd w.lane q (next_lane o i nx); now = suc w.now; since = w.since; ended = finish w q o i nx })
  acc_step F hc hd hf hdr = record { begun = begun'; fronts = fronts'; draws = draws'; wrote = λ j hj t. wrote' j hj t (F j) }
    where
      wrote' : (j : ℕ) → j < G.m → M.link j ≢ old_link j → (M.link j ≡ w.mem.link j) ⊎ ((w.mem.link j ≡ old_link j) × (T.cells j ≡ 1)) → T.cells j ≡ 1
      wrote' j hj t (inl h) = A.wrote j hj (λ z. t (h ∙ z))
      wrote' j hj t (inr h) = h.1

      same_op : (nx : Next) (o₁ : Op) (j : ℕ) (g₁ : Stage) → next_lane o i nx ≡ busy o₁ j g₁ → busy o i g ≡ busy o₁ j g
      same_op (go g') v j g₁ k = cc
      same_op (end a) v j g₁ k = absurd (let y : ◌≡◌ {A = ℕ} 0 1 = cc in omega arith)

      begun' : (r : ℕ) (v : Op) (j : ℕ) (g₁ : Stage) → upd w.lane q (next_lane o i nx) r ≡ busy v j g₁ → Writing v → (T.cells j ≡ 1) × (T.procs r ≡ 1)
      begun' r v j g₁ k b = by (ℕ_discrete r q)
        where
          by : Dec (r ≡ q) → (T.cells j ≡ 1) × (T.procs r ≡ 1)
          by (yes h) =
              rw h
              (A.begun q v j g
              (e ∙ same_op nx v j g₁ (sym (upd_same w.lane q (next_lane o i nx)) ∙ ap (upd w.lane q (next_lane o i nx)) (sym h) ∙ k)) b)
          by (no h) = A.begun r v j g₁ (sym (upd_other w.lane q (next_lane o i nx) r h) ∙ k) b

      fronts' : (r k : ℕ) → k < front (upd w.lane q (next_lane o i nx) r) (M.in_force r) → Owed G old_link T M r k
      fronts' r k = by (ℕ_discrete r q)
        where
          mine : k < front (next_lane o i nx) (M.in_force q) → Owed G old_link T M q k
          mine h =
              ⊎_elim (λ (y : k < front_at g (w.mem.in_force q)). owed_forward {M = w.mem} {M' = M} F (A.fronts q k (rw e y)))
              (λ (y : Owed G old_link T M q k). y) (hf k h)

          by : Dec (r ≡ q) → k < front (upd w.lane q (next_lane o i nx) r) (M.in_force r) → Owed G old_link T M r k
          by (yes h) = rw h (rw (upd_same w.lane q (next_lane o i nx)) mine)
          by (no h) = rw (upd_other w.lane q (next_lane o i nx) r h, hc r h) (λ y. owed_forward {M = w.mem} {M' = M} F (A.fronts r k y))

      drawn_forward : (r : ℕ) → M.drawn r ≡ w.mem.drawn r → Drawn G old_link T w.mem r → Drawn G old_link T M r
      drawn_forward r h d = record { n = d.n; small = rw h d.small; owed = λ k y. owed_forward {M = w.mem} {M' = M} F (d.owed k y) }

      draws' : (r : ℕ) → Drawn G old_link T M r
      draws' r = by (ℕ_discrete r q)
        where
          by : Dec (r ≡ q) → Drawn G old_link T M r
          by (yes h) = rw h (⊎_elim (λ (y : M.drawn q ≡ w.mem.drawn q). drawn_forward q y (A.draws q)) (λ (y : Drawn G old_link T M q). y) hdr)
          by (no h) = drawn_forward r (hd r h) (A.draws r)
