-- The tally: for which cells and by which processes a write has begun; a begun write enters it.
-- Assumes nothing.
use Rattle.std.specs.Prelude.{◌≡◌, refl, ℕ, ◌+◌, ◌^◌, ◌≤◌, ◌<◌}
use Rattle.std.proofs.Common.{sym, ap, ◌∙◌, subst, inl, inr, ⊎_elim, arith}
use Rattle.std.proofs.Math.Decide.{ℕ_discrete}
use Rattle.theory.specs.Base.{upd, upd_same, upd_other}
use Rattle.theory.specs.Array.{Op, read, asked, write, Writing}
use Rattle.theory.specs.Machine.{Grid, Link, Stage, Lane, idle, busy, Mem, Watch, first_stage, started, opened}
use Rattle.theory.specs.Run.{Tally, tallied}
use Rattle.theory.specs.Standing.{front_at, front}
use Rattle.theory.specs.Account.{Owed, Drawn, Account}

-- what was counted stays counted
pub record Counts (T T' : Tally) : Type 0 where
  pub cells : (i : ℕ) → T.cells i ≡ 1 → T'.cells i ≡ 1
  pub procs : (q : ℕ) → T.procs q ≡ 1 → T'.procs q ≡ 1

upd_one : (f : ℕ → ℕ) (i j : ℕ) → f j ≡ 1 → upd f i 1 j ≡ 1
upd_one f i j h = by (ℕ_discrete j i)
  where
    by : Dec (j ≡ i) → upd f i 1 j ≡ 1
    by (yes k) = rw k (upd_same f i 1)
    by (no k) = upd_other f i 1 j k ∙ h

tallied_counts : (T : Tally) (q : ℕ) (o : Op) (i : ℕ) → Counts T (tallied T q o i)
tallied_counts T q read i = record { cells = λ j h. h; procs = λ r h. h }
tallied_counts T q asked i = record { cells = λ j h. h; procs = λ r h. h }
tallied_counts T q (write v) i = record { cells = λ j h. upd_one T.cells i j h; procs = λ r h. upd_one T.procs q r h }

tallied_new : (T : Tally) (q : ℕ) (o : Op) (i : ℕ) → Writing o → ((tallied T q o i).cells i ≡ 1) × ((tallied T q o i).procs q ≡ 1)
tallied_new T q read i h = absurd h
tallied_new T q asked i h = absurd h
tallied_new T q (write v) i h = (upd_same T.cells i 1, upd_same T.procs q 1)

upd_le : (f : ℕ → ℕ) (i j : ℕ) → ((k : ℕ) → f k ≤ 1) → upd f i 1 j ≤ 1
upd_le f i j h = by (ℕ_discrete j i)
  where
    by : Dec (j ≡ i) → upd f i 1 j ≤ 1
    by (yes k) = rw k (rw (upd_same f i 1) (omega arith))
    by (no k) = rw (upd_other f i 1 j k) (h j)

abbrev pub Ones : Tally → Type 0
Ones T = ((i : ℕ) → T.cells i ≤ 1) × ((q : ℕ) → T.procs q ≤ 1)

pub tallied_ones : (T : Tally) (q : ℕ) (o : Op) (i : ℕ) → Ones T → Ones (tallied T q o i)
tallied_ones T q read i h = h
tallied_ones T q asked i h = h
tallied_ones T q (write v) i h = ((λ j. upd_le T.cells i j h.0), (λ j. upd_le T.procs q j h.1))

first_front : (o : Op) (c : ℕ) → front_at (first_stage o) c ≡ c
first_front read c = refl
first_front asked c = refl
first_front (write v) c = refl

module _ {G : Grid} {old_link : ℕ → Link} where
  owed_counts : (T T' : Tally) → Counts T T' → (M : Mem) (q k : ℕ) → Owed G old_link T M q k → Owed G old_link T' M q k
  owed_counts T T' C M q k h = record { i = h.i; cell = h.cell; begun = C.cells h.i h.begun; which = h.which }

  pub acc_start : {T : Tally} {w : Watch} → Account G old_link T w → (q : ℕ) (o : Op) (i : ℕ) → w.lane q ≡ idle
      → Account G old_link (tallied T q o i) (started w q o i)
  acc_start {T} {w} A q o i free = record { begun = begun'; fronts = fronts'; draws = draws'; wrote = λ j hj t. C.cells j (A.wrote j hj t) }
    where
      T' : Tally
      T' = tallied T q o i

      C : Counts T T'
      C = tallied_counts T q o i

      l : Lane
      l = busy o i (first_stage o)

      new : (v : Op) (j : ℕ) (g : Stage) → busy o i (first_stage o) ≡ busy v j g → Writing v → (T'.cells j ≡ 1) × (T'.procs q ≡ 1)
      new v j g k b = let ho : o ≡ v = cc in
          let hi : i ≡ j = cc in
          subst (λ (y : ℕ). (T'.cells y ≡ 1) × (T'.procs q ≡ 1)) hi (tallied_new T q o i (subst (λ (y : Op). Writing y) (sym ho) b))

      begun' : (r : ℕ) (v : Op) (j : ℕ) (g : Stage) → upd w.lane q l r ≡ busy v j g → Writing v → (T'.cells j ≡ 1) × (T'.procs r ≡ 1)
      begun' r v j g k b = by (ℕ_discrete r q)
        where
          by : Dec (r ≡ q) → (T'.cells j ≡ 1) × (T'.procs r ≡ 1)
          by (yes h) = rw h (new v j g (sym (upd_same w.lane q l) ∙ ap (upd w.lane q l) (sym h) ∙ k) b)
          by (no h) = let y = A.begun r v j g (sym (upd_other w.lane q l r h) ∙ k) b in (C.cells j y.0, C.procs r y.1)

      fronts' : (r k : ℕ) → k < front (upd w.lane q l r) (w.mem.in_force r) → Owed G old_link T' w.mem r k
      fronts' r k = by (ℕ_discrete r q)
        where
          by : Dec (r ≡ q) → k < front (upd w.lane q l r) (w.mem.in_force r) → Owed G old_link T' w.mem r k
          by (yes h) =
              rw h
              (rw (upd_same w.lane q l)
              (λ y. owed_counts T T' C w.mem q k (A.fronts q k (rw free (rw (first_front o (w.mem.in_force q)) at y)))))
          by (no h) = rw (upd_other w.lane q l r h) (λ y. owed_counts T T' C w.mem r k (A.fronts r k y))

      draws' : (r : ℕ) → Drawn G old_link T' w.mem r
      draws' r = record {
        n = d.n;
        small =
            ⊎_elim (λ (h : 2 ^ w.mem.drawn r ≤ d.n + 1). inl h)
            (λ (h : (2 ^ w.mem.drawn r ≤ d.n + 2) × (T.procs r ≡ 1)). inr (h.0, C.procs r h.1)) d.small;
        owed = λ k y. owed_counts T T' C w.mem r k (d.owed k y);
      }
        where
          d : Drawn G old_link T w.mem r
          d = A.draws r

pub opened_acc : (G : Grid) (old_link : ℕ → Link) (readings : ℕ → ℕ) (marks : ℕ → ℕ → ℕ)
    → Account G old_link (record { cells = λ i. 0; procs = λ q. 0 }) (opened readings old_link marks)
unfolding opened
opened_acc G old_link readings marks = record {
  begun = λ q o i g h. absurd (let y : ◌≡◌ {A = ℕ} 0 1 = cc in omega arith);
  fronts = λ q k h. absurd (let y : ⊥ = omega arith in y);
  draws = λ q. record { n = 0; small = inl (omega arith); owed = λ k h. absurd (let y : ⊥ = omega arith in y) };
  wrote = λ j hj t. absurd (t refl);
}
