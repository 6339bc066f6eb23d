-- A trial: there is a shape, and starred examples 5, 6 and 9 of the scope run on this machine as they should.
-- Assumes nothing.
use Rattle.std.specs.Prelude.{◌≡◌, refl, List, ◌∷◌, ◌++◌, ℕ, zero, suc, ◌+◌, ◌*◌, ◌-◌, ◌^◌, ◌≤◌, ◌<◌, replicate}
use Rattle.std.proofs.Math.Decide.{ℕ_discrete, dec_lt, dec_le}
use Rattle.std.proofs.Common.{arith}
use Rattle.theory.specs.Base.{pick, upd}
use Rattle.theory.specs.Array.{write}
use Rattle.theory.specs.Shape.{Shape}
use Rattle.theory.specs.Machine.{Grid, Lawful, Link, mk, idle, same_link, opened}
use Rattle.theory.specs.Run.{Call, begin, step, Run, after_calls, opened_run}

-- the segment goes up by one where n + 2 comes to the next power of two
seg_trial : ℕ → ℕ
seg_trial zero = 0
seg_trial (suc n) = pick (ℕ_discrete (n + 3) (2 ^ suc (suc (seg_trial n)))) (suc (seg_trial n)) (seg_trial n)

bounds : (n : ℕ) → (2 ^ suc (seg_trial n) ≤ n + 2) × (n + 2 < 2 ^ suc (suc (seg_trial n)))
unfolding seg_trial
bounds zero = (omega arith, omega arith)
bounds (suc n) = by (ℕ_discrete (n + 3) (2 ^ suc (suc (seg_trial n)))) (bounds n)
  where
    by : (d : Dec (n + 3 ≡ 2 ^ suc (suc (seg_trial n)))) → (2 ^ suc (seg_trial n) ≤ n + 2) × (n + 2 < 2 ^ suc (suc (seg_trial n)))
        → (2 ^ suc (pick d (suc (seg_trial n)) (seg_trial n)) ≤ suc n + 2) × (suc n + 2 < 2 ^ suc (suc (pick d (suc (seg_trial n)) (seg_trial n))))
    by (yes k) h = (omega arith, omega arith)
    by (no k) h = (omega arith, omega arith)

trial_shape : Shape
trial_shape = record {
  seg = seg_trial;
  off = λ n. n + 2 - 2 ^ suc (seg_trial n);
  segments = 17;
  low = λ n. (bounds n).0;
  high = λ n. (bounds n).1;
  at = λ n. omega (arith, bounds n);
}

trial_grid : ℕ → Grid
trial_grid p = record { p = p; m = 2; f = λ i. 7; code = λ i. i; grave = 4294967295; shape = trial_shape }

trial_lawful : (p : ℕ) → Lawful (trial_grid p)
unfolding trial_grid trial_shape
trial_lawful p = record { inj = λ i j hi hj h. h; apart = λ i hi h. let y : ⊥ = omega arith in y; enough = omega arith }

opened_over : (ℕ → Link) → Run
opened_over links = opened_run (λ i. 0) links (λ q n. 0) (λ q s. 0) (λ x. 0) (λ q. 0)

-- fill 0: every link is (0, 0)
filled : Run
filled = opened_over (λ i. mk 0 0)

-- process q writes v to cell i in n steps
writes : ℕ → ℕ → ℕ → ℕ → List Call
writes q v i n = begin q (write v) i ∷ replicate n (step q)

-- 5. p 1: the first write of cell 0 takes 9 steps, leaves link (0, 1), 2 marks in force. 6. Then a write of cell 1 takes 10.
example_5 : (R : Run) → R ≡ after_calls (trial_grid 1) filled (writes 0 9 0 9)
    → (R.watch.lane 0 ≡ idle) × (R.watch.mem.link 0 ≡ mk 0 1) × (R.watch.mem.in_force 0 ≡ 2) × (R.taken 0 ≡ 9)
unfolding trial_grid trial_shape opened_over filled writes seg_trial after_calls opened upd ℕ_discrete dec_lt dec_le same_link
example_5 R e = rw e (refl, refl, refl, refl)

example_6 : (R : Run) → R ≡ after_calls (trial_grid 1) filled (writes 0 9 0 9 ++ writes 0 5 1 10) → (R.watch.lane 0 ≡ idle) × (R.taken 0 ≡ 10)
unfolding trial_grid trial_shape opened_over filled writes seg_trial after_calls opened upd ℕ_discrete dec_lt dec_le same_link
example_6 R e = rw e (refl, refl)

-- 9. p 2: process 0 writes cell 0; then 9 steps of its write of cell 1; process 1 writes cell 1 whole (10 steps);
-- process 0 ends at its step 11. Marks in force 2 and 1; drawn 8.
example_9 : (R : Run) → R ≡ after_calls (trial_grid 2) filled (writes 0 9 0 9 ++ writes 0 5 1 9 ++ writes 1 6 1 10 ++ replicate 2 (step 0))
    → (R.watch.lane 0 ≡ idle) × (R.taken 0 ≡ 11) × (R.watch.mem.in_force 0 ≡ 2) × (R.watch.mem.in_force 1 ≡ 1) × (R.words.top ≡ 8)
unfolding trial_grid trial_shape opened_over filled writes seg_trial after_calls opened upd ℕ_discrete dec_lt dec_le same_link
example_9 R e = rw e (refl, refl, refl, refl, refl)

-- Link 1 is (0, 1), the last place of segment 0: the tombstone goes there, then segment 1 is drawn, and place 2 marked.
last_place : (R : Run) → R ≡ after_calls (trial_grid 1) (opened_over (λ i. mk 0 (5 - 4 * i))) (writes 0 9 0 8 ++ writes 0 5 1 9)
    → (R.watch.lane 0 ≡ idle) × (R.taken 0 ≡ 9) × (R.watch.mem.link 1 ≡ mk 0 2) × (R.watch.mem.in_force 0 ≡ 3) × (R.words.top ≡ 6)
unfolding trial_grid trial_shape opened_over writes seg_trial after_calls opened upd ℕ_discrete dec_lt dec_le same_link
last_place R e = rw e (refl, refl, refl, refl, refl)
