-- The count: from the account, how many words of the pool are handed out, and how many places a lane has in front.
-- Assumes nothing.
use Rattle.std.proofs.Math.Path.{◌≡◌, refl}
use Rattle.std.proofs.Common.{sym, ap, inl, inr}
use Rattle.std.specs.Prelude.{◌⊎◌, ◌≢◌, ℕ, suc, ◌+◌, ◌*◌, ◌-◌, ◌^◌, ◌≤◌, ◌<◌}
use Rattle.std.proofs.Math.Logic.{⊎_elim}
use Rattle.std.proofs.Math.Decide.{ℕ_discrete}
use native.Mathlib.Omega.{arith}
use Rattle.theory.specs.Base.{pick}
use Rattle.theory.specs.Machine.{Grid, Link, mk, same_link, Watch}
use Rattle.theory.specs.Run.{Tally}
use Rattle.theory.specs.Sum.{sum, sum_mono, sum_add, sum_double, sum_zero, sum_term, sum_single, double_count}
use Rattle.theory.specs.Account.{Owed, Account}

-- words drawn by a lane with d segments: 2 + 4 + ... + 2 ^ d
abbrev pub handed : ℕ → ℕ
handed d = 2 ^ suc d - 2

module _ {G : Grid} {old_link : ℕ → Link} {T : Tally} {w : Watch} (A : Account G old_link T w) where
  size : ℕ → ℕ
  size q = (A.draws q).n

  lane_words : (q : ℕ) → handed (w.mem.drawn q) ≤ 2 * size q + 2 * T.procs q
  unfolding size
  lane_words q =
      ⊎_elim (λ (h : 2 ^ w.mem.drawn q ≤ (A.draws q).n + 1). omega arith)
      (λ (h : (2 ^ w.mem.drawn q ≤ (A.draws q).n + 2) × (T.procs q ≡ 1)). omega (arith, h.0, h.1)) (A.draws q).small

  lane_owed : (q k : ℕ) → k < size q → Owed G old_link T w.mem q k
  unfolding size
  lane_owed q k h = (A.draws q).owed k h

  -- 1 if the link is this place
  hit : Link → ℕ → ℕ → ℕ
  hit L q k = pick (same_link L (mk q k)) 1 0

  hit_yes : (L : Link) (q k : ℕ) → L ≡ mk q k → hit L q k ≡ 1
  unfolding hit
  hit_yes L q k h = by (same_link L (mk q k))
    where
      by : (d : Dec (L ≡ mk q k)) → ◌≡◌ {A = ℕ} (pick d 1 0) 1
      by (yes z) = refl
      by (no z) = absurd (z h)

  hit_no : (L : Link) (q k : ℕ) → L ≢ mk q k → hit L q k ≡ 0
  unfolding hit
  hit_no L q k h = by (same_link L (mk q k))
    where
      by : (d : Dec (L ≡ mk q k)) → ◌≡◌ {A = ℕ} (pick d 1 0) 0
      by (yes z) = absurd (h z)
      by (no z) = refl

  hit_le : (L : Link) (q k : ℕ) → hit L q k ≤ 1
  unfolding hit
  hit_le L q k = by (same_link L (mk q k))
    where
      by : (d : Dec (L ≡ mk q k)) → pick d 1 0 ≤ 1
      by (yes z) = omega arith
      by (no z) = omega arith

  -- a link names one place
  hits : (L : Link) (p : ℕ) (n : ℕ → ℕ) → sum (λ q. sum (λ k. hit L q k) (n q)) p ≤ 1
  hits L p n =
      sum_single (λ q. sum (λ k. hit L q k) (n q)) p L.proc 1
      (λ q ne. sum_zero (λ k. hit L q k) (n q) (λ k hk. hit_no L q k (λ z. ne (sym (ap (λ (y : Link). y.proc) z)))))
      (sum_single (λ k. hit L L.proc k) (n L.proc) L.place 1 (λ k ne. hit_no L L.proc k (λ z. ne (sym (ap (λ (y : Link). y.place) z))))
      (hit_le L L.proc L.place))

  -- cell i is owed place k of lane q: 0, 1 or 2 ways, and none if no write of it has begun
  ways : ℕ → ℕ → ℕ → ℕ
  ways q k i = pick (ℕ_discrete (T.cells i) 1) (hit (w.mem.link i) q k + hit (old_link i) q k) 0

  ways_begun : (q k i : ℕ) → T.cells i ≡ 1 → ways q k i ≡ hit (w.mem.link i) q k + hit (old_link i) q k
  unfolding ways
  ways_begun q k i h = by (ℕ_discrete (T.cells i) 1)
    where
      by : (d : Dec (T.cells i ≡ 1)) → pick d (hit (w.mem.link i) q k + hit (old_link i) q k) 0 ≡ hit (w.mem.link i) q k + hit (old_link i) q k
      by (yes z) = refl
      by (no z) = absurd (z h)

  ways_idle : (q k i : ℕ) → T.cells i ≢ 1 → ways q k i ≡ 0
  unfolding ways
  ways_idle q k i h = by (ℕ_discrete (T.cells i) 1)
    where
      by : (d : Dec (T.cells i ≡ 1)) → pick d (hit (w.mem.link i) q k + hit (old_link i) q k) 0 ≡ 0
      by (yes z) = absurd (h z)
      by (no z) = refl

  covered_by : (q k : ℕ) → Owed G old_link T w.mem q k → 1 ≤ sum (ways q k) G.m
  covered_by q k h = omega (arith, sum_term (ways q k) G.m h.i h.cell, ways_begun q k h.i h.begun, one h.which)
    where
      one : ((w.mem.link h.i ≡ mk q k) × (old_link h.i ≢ mk q k)) ⊎ (old_link h.i ≡ mk q k)
          → 1 ≤ hit (w.mem.link h.i) q k + hit (old_link h.i) q k
      one (inl z) = omega (arith, hit_yes (w.mem.link h.i) q k z.0)
      one (inr z) = omega (arith, hit_yes (old_link h.i) q k z)

  covered : (q k : ℕ) → q < G.p → k < size q → 1 ≤ sum (ways q k) G.m
  covered q k hq hk = covered_by q k (lane_owed q k hk)

  once : (i : ℕ) → i < G.m → sum (λ q. sum (λ k. ways q k i) (size q)) G.p ≤ 2 * T.cells i
  once i hi = by (ℕ_discrete (T.cells i) 1)
    where
      split : T.cells i ≡ 1
          → sum (λ q. sum (λ k. ways q k i) (size q)) G.p
          ≡ sum (λ q. sum (λ k. hit (w.mem.link i) q k) (size q)) G.p + sum (λ q. sum (λ k. hit (old_link i) q k) (size q)) G.p
      split z = simp (open_ways, sum_add)
        where
          open_ways : (q k : ℕ) → ways q k i ≡ hit (w.mem.link i) q k + hit (old_link i) q k
          open_ways q k = ways_begun q k i z

      by : Dec (T.cells i ≡ 1) → sum (λ q. sum (λ k. ways q k i) (size q)) G.p ≤ 2 * T.cells i
      by (yes z) = omega (arith, split z, hits (w.mem.link i) G.p size, hits (old_link i) G.p size)
      by (no z) = omega (arith, sum_zero (λ q. sum (λ k. ways q k i) (size q)) G.p (λ q hq. sum_zero (λ k. ways q k i) (size q) (λ k hk. ways_idle q k i z)))

  -- words handed out: at most 4 for each cell and 2 for each process that has begun a write
  pub handed_out : sum (λ q. handed (w.mem.drawn q)) G.p ≤ 4 * sum T.cells G.m + 2 * sum T.procs G.p
  handed_out = omega (
    arith,
    sum_mono (λ q. handed (w.mem.drawn q)) (λ q. 2 * size q + 2 * T.procs q) G.p (λ q hq. lane_words q),
    sum_add (λ q. 2 * size q) (λ q. 2 * T.procs q) G.p,
    sum_double size G.p,
    sum_double T.procs G.p,
    double_count G.p G.m size ways (λ i. 2 * T.cells i) covered once,
    sum_double T.cells G.m,
  )

  -- a lane's places in use: at most 2 for each cell for which a write has begun
  hits_one : (L : Link) (q n : ℕ) → sum (λ k. hit L q k) n ≤ 1
  hits_one L q n = sum_single (λ k. hit L q k) n L.place 1 (λ k ne. hit_no L q k (λ z. ne (sym (ap (λ (y : Link). y.place) z)))) (hit_le L q L.place)

  pub owed_bound : (q n : ℕ) → ((k : ℕ) → k < n → Owed G old_link T w.mem q k) → n ≤ 2 * sum T.cells G.m
  unfolding sum
  owed_bound q n owed =
      omega (
        arith,
        double_count 1 G.m (λ r. n) (λ r k i. ways q k i) (λ i. 2 * T.cells i) (λ r k hr hk. covered_by q k (owed k hk))
            (λ i hi. by i (ℕ_discrete (T.cells i) 1)),
        sum_double T.cells G.m,
      )
    where
      by : (i : ℕ) → Dec (T.cells i ≡ 1) → 0 + sum (λ k. ways q k i) n ≤ 2 * T.cells i
      by i (yes z) = omega (arith, split, hits_one (w.mem.link i) q n, hits_one (old_link i) q n)
        where
          open_ways : (k : ℕ) → ways q k i ≡ hit (w.mem.link i) q k + hit (old_link i) q k
          open_ways k = ways_begun q k i z

          split : sum (λ k. ways q k i) n ≡ sum (λ k. hit (w.mem.link i) q k) n + sum (λ k. hit (old_link i) q k) n
          split = simp (open_ways, sum_add)
      by i (no z) = omega (arith, sum_zero (λ k. ways q k i) n (λ k hk. ways_idle q k i z))
