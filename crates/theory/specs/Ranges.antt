-- The ranges: from the account, how far places, drawn segments and the pool's top go.
-- Assumes nothing.
use Rattle.std.specs.Prelude.{◌≡◌, ℕ, suc, ◌+◌, ◌^◌, ◌≤◌, ◌<◌, max}
use Rattle.std.proofs.Common.{⊎_elim, arith, pow_mono}
use Rattle.std.proofs.Math.Decide.{ℕ_discrete, dec_lt}
use Rattle.theory.specs.Base.{upd, upd_same, upd_other}
use Rattle.theory.specs.Array.{Op}
use Rattle.theory.specs.Machine.{Grid, most_marks, pool_words, Lawful, Link, Stage, busy, Watch}
use Rattle.theory.specs.Run.{Tally}
use Rattle.theory.specs.Standing.{Standing, nowhere, making, entering, stamping, hanging, standing_at, front_by, used_by, used_next, front}
use Rattle.theory.specs.Sum
use Rattle.theory.specs.Account.{Owed, Drawn, Account}
use Rattle.theory.specs.Count
use Rattle.theory.specs.Tallies.{Ones}

sum_ones_le : (f : ℕ → ℕ) (n : ℕ) → ((k : ℕ) → f k ≤ 1) → Sum.sum f n ≤ n
sum_ones_le f n h = omega (arith, Sum.sum_mono f (λ k. 1) n (λ k hk. h k), Sum.sum_ones n)

module _ {G : Grid} {old_link : ℕ → Link} {T : Tally} {w : Watch} (C : Account G old_link T w) (O : Ones T) where
  pub places_le : (q n : ℕ) → ((k : ℕ) → k < n → Owed G old_link T w.mem q k) → n < most_marks G
  places_le q n h = omega (arith, Count.owed_bound C q n h, sum_ones_le T.cells G.m O.0)

  pub front_le : (q : ℕ) → front (w.lane q) (w.mem.in_force q) < most_marks G
  front_le q = places_le q (front (w.lane q) (w.mem.in_force q)) (C.fronts q)

  pub handed_le : Sum.sum (λ q. Count.handed (w.mem.drawn q)) G.p ≤ pool_words G
  handed_le = omega (arith, Count.handed_out C, sum_ones_le T.cells G.m O.0, sum_ones_le T.procs G.p O.1)

  -- the segments suffice for every accounted place
  pub segments_suffice : (A : Lawful G) (t n : ℕ) → 2 ^ t ≤ n + 2 → n < most_marks G → t ≤ G.shape.segments
  segments_suffice A t n h k = by (dec_lt G.shape.segments t)
    where
      by : Dec (G.shape.segments < t) → t ≤ G.shape.segments
      by (yes z) = absurd (let y : ⊥ = omega (arith, pow_mono {i = suc G.shape.segments} {j = t} z, A.enough) in y)
      by (no z) = omega arith

  pub drawn_le : (A : Lawful G) (q : ℕ) → w.mem.drawn q ≤ G.shape.segments
  drawn_le A q =
      segments_suffice A (w.mem.drawn q) d.n
      (⊎_elim (λ (h : 2 ^ w.mem.drawn q ≤ d.n + 1). omega arith) (λ (h : (2 ^ w.mem.drawn q ≤ d.n + 2) × (T.procs q ≡ 1)). h.0) d.small)
      (places_le q d.n d.owed)
    where
      d : Drawn G old_link T w.mem q
      d = C.draws q

  -- a place that is used lies below the most
  pub few_step : (used : ℕ → ℕ) → ((r : ℕ) → used r ≤ most_marks G) → (q : ℕ) (o : Op) (i : ℕ) (g : Stage) → w.lane q ≡ busy o i g → (r : ℕ)
      → used_next used q g r ≤ most_marks G
  few_step used few q o i g e r = by (standing_at g) (rw e at (front_le q))
    where
      raised : (n : ℕ) → n < most_marks G → Dec (r ≡ q) → upd used q (max (used q) (suc n)) r ≤ most_marks G
      raised n h (yes z) = rw z (rw (upd_same used q (max (used q) (suc n))) (omega (arith, few q)))
      raised n h (no z) = rw (upd_other used q (max (used q) (suc n)) r z) (few r)

      by : (t : Standing) → front_by t (w.mem.in_force q) < most_marks G → used_by t used q r ≤ most_marks G
      by nowhere h = few r
      by (making n) h = few r
      by (entering n) h = few r
      by (stamping n) h = raised n h (ℕ_discrete r q)
      by (hanging n) h = few r
