-- The stored writes of a cell enter the order together, one of them, x, held back for the end.
-- Assumes nothing.
use Rattle.std.specs.Prelude.{◌≡◌, refl, ◌⊎◌, ◌≢◌, false, ℕ, zero, suc, ◌≤◌, ◌<◌}
use Rattle.std.proofs.Common.{sym, ap, ◌∙◌, inl, inr, ⊎_elim, arith}
use mathlib.Core.List.Memᴰ
use mathlib.Core.List.{List, [], ◌∷◌, ◌++◌, Memᴰ}
use Rattle.std.proofs.Math.Decide.{ℕ_discrete}
use Rattle.theory.specs.Array.{read, asked, write, done}
use Rattle.theory.specs.Order.{Entry, value_in, written_in}
use Rattle.theory.specs.Machine.{Grid, Link, Seen, Stage, marking, Lane, idle, busy}
use Rattle.theory.specs.Standing.{After}
use Rattle.theory.specs.OrderLaws
use Rattle.theory.specs.World.{World, Unplaced}
use Rattle.theory.specs.Claims.{Stored}
use Rattle.theory.specs.Inv.{Judged, sure, dud, StageOk, BusyOk, Inv}
use Rattle.theory.specs.Log
use Rattle.theory.specs.Log.{Pre}

-- the operation of a stored lane is a write of that cell
stored_busy : (l : Lane) (i v : ℕ) → Stored l i v → (g : Stage) × (l ≡ busy (write v) i g) × After g
stored_busy idle i v s = absurd s
stored_busy (busy read c g) i v s = absurd s.0
stored_busy (busy asked c g) i v s = absurd s.0
stored_busy (busy (write x) c g) i v s = (g, ap₂' s.0 s.1, s.2)
  where
    ap₂' : x ≡ v → c ≡ i → busy (write x) c g ≡ busy (write v) i g
    ap₂' h k = cc

after? : (g : Stage) → Dec (After g)
after? Stage.store = no (λ z. z)
after? Stage.check_link = yes tt
after? (Stage.check_marks S) = yes tt
after? (Stage.check_directory S) = yes tt
after? (Stage.check_mark S) = yes tt
after? Stage.fetch = yes tt
after? (marking k) = yes tt

-- a lane has stored to cell i, or not
stored? : (l : Lane) (i : ℕ) → ((v : ℕ) × Stored l i v) ⊎ ((v : ℕ) → Stored l i v → ⊥)
stored? idle i = inr (λ v s. s)
stored? (busy read c g) i = inr (λ v s. s.0)
stored? (busy asked c g) i = inr (λ v s. s.0)
stored? (busy (write x) c g) i = by (ℕ_discrete c i) (after? g)
  where
    by : Dec (c ≡ i) → Dec (After g) → ((v : ℕ) × Stored (busy (write x) c g) i v) ⊎ ((v : ℕ) → Stored (busy (write x) c g) i v → ⊥)
    by (yes k) (yes a) = inl (x, (refl, k, a))
    by (yes k) (no a) = inr (λ v s. a s.2)
    by (no k) d = inr (λ v s. k s.1)

module _ {G : Grid} {old_link : ℕ → Link} {W : World} (I : Inv G old_link W) (i x : ℕ) (hi : written_in W.log i ≡ false) where
  -- the entry is one of those that the swap puts into the order
  pub record Newer (k : ℕ) (z : Entry) : Type 0 where
    pub r : ℕ
    pub v : ℕ
    pub stored : Stored (W.w.lane r) i v
    pub since : z.began ≡ W.w.since r
    pub below : r < k
    pub other : r ≢ x

  -- the order with the stored writes of cell i by the processes below k, but for x, put on top
  pub record Swept (k : ℕ) (log : List Entry) : Type 0 where
    pub pre : Pre G old_link W log
    pub more : (z : Entry) → Memᴰ z W.log → Memᴰ z log
    pub less : (z : Entry) → Memᴰ z log → Memᴰ z W.log ⊎ Newer k z
    pub all : (r v : ℕ) → r < k → r ≢ x → Stored (W.w.lane r) i v → Memᴰ (Log.entry W.w r (write v) i done) log
    pub same : (j : ℕ) → j ≢ i → written_in log j ≡ written_in W.log j
    pub vals : (j : ℕ) → j ≢ i → value_in G.f log j ≡ value_in G.f W.log j

  pub busy_of : (r v : ℕ) → Stored (W.w.lane r) i v → (g : Stage) × (W.w.lane r ≡ busy (write v) i g) × After g × BusyOk G old_link W r (write v) i g
  busy_of r v s = let t = stored_busy (W.w.lane r) i v s in (t.0, t.1, t.2, rw t.1 at (I.lanes r))

  -- a stored write of an unwritten cell is not yet in the order
  unjudged : (r v : ℕ) (S : Seen) → Judged G old_link W r (write v) i S → Unplaced G old_link W r
  unjudged r v S (sure t z s) = s.old hi
  unjudged r v S (dud z s) = s.old hi

  unplaced_of : (r v : ℕ) (g : Stage) → After g → StageOk G old_link W r (write v) i g → Unplaced G old_link W r
  unplaced_of r v Stage.store a h = absurd a
  unplaced_of r v Stage.check_link a h = h.old hi
  unplaced_of r v (Stage.check_marks S) a h = unjudged r v S h.0
  unplaced_of r v (Stage.check_directory S) a h = unjudged r v S h.0
  unplaced_of r v (Stage.check_mark S) a h = unjudged r v S h.0
  unplaced_of r v Stage.fetch a h = h.2
  unplaced_of r v (marking k) a h = h.0.old hi

  -- one more write on top
  pub put : (k : ℕ) (log : List Entry) (S : Swept k log) (r v : ℕ) → Stored (W.w.lane r) i v → ((y : ℕ) → y < k → y ≢ x → y ≢ r)
      → Pre G old_link W (Log.entry W.w r (write v) i done ∷ log)
  put k log S r v s ne = Log.pre_place S.pre r done b.1 b.3.past un refl
    where
      b : (g : Stage) × (W.w.lane r ≡ busy (write v) i g) × After g × BusyOk G old_link W r (write v) i g
      b = busy_of r v s

      un : (z : Entry) → Memᴰ z log → z.began ≢ W.w.since r
      un z m h = ⊎_elim (λ (y : Memᴰ z W.log). unplaced_of r v b.0 b.2 b.3.at z y h)
          (λ (y : Newer k z). let c = busy_of y.r y.v y.stored in
          ne y.r y.below y.other (I.apart y.r r (write y.v) (write v) i i c.0 b.0 c.1 b.1 (sym y.since ∙ h)))
          (S.less z m)

  pub sweep : (k : ℕ) → (newer : List Entry) × Swept k (newer ++ W.log)
  sweep zero = (
    [],
    record {
      pre = Log.pre_keep I;
      more = λ z m. m;
      less = λ z m. inl m;
      all = λ r v h. absurd (let y : ⊥ = omega arith in y);
      same = λ j ne. refl;
      vals = λ j ne. refl;
    },
  )
  sweep (suc k) = next (sweep k) (stored? (W.w.lane k) i) (ℕ_discrete k x)
    where
      wider : (z : Entry) → Memᴰ z W.log ⊎ Newer k z → Memᴰ z W.log ⊎ Newer (suc k) z
      wider z (inl m) = inl m
      wider z (inr y) = inr (record { r = y.r; v = y.v; stored = y.stored; since = y.since; below = omega (arith, y.below); other = y.other })

      lower : (r : ℕ) → r < suc k → r ≢ k → r < k
      lower r h ne = omega arith

      next : (newer : List Entry) × Swept k (newer ++ W.log) → ((v : ℕ) × Stored (W.w.lane k) i v) ⊎ ((v : ℕ) → Stored (W.w.lane k) i v → ⊥) → Dec (k ≡ x)
          → (newer : List Entry) × Swept (suc k) (newer ++ W.log)
      next t d (yes h) = (
        t.0,
        record {
          pre = t.1.pre;
          more = t.1.more;
          less = λ z m. wider z (t.1.less z m);
          all = λ r v hr ne s. t.1.all r v (lower r hr (λ y. ne (y ∙ h))) ne s;
          same = t.1.same;
          vals = t.1.vals;
        },
      )
      next t (inr d) (no h) = (
        t.0,
        record {
          pre = t.1.pre;
          more = t.1.more;
          less = λ z m. wider z (t.1.less z m);
          all = λ r v hr ne s. t.1.all r v (lower r hr (λ y. d v (rw y at s))) ne s;
          same = t.1.same;
          vals = t.1.vals;
        },
      )
      next t (inl d) (no h) = (
        new_entry ∷ t.0,
        record {
          pre = put k (t.0 ++ W.log) t.1 k d.0 d.1 (λ y hy ne z. let u : suc k ≤ k = rw z at hy in absurd (let w : ⊥ = omega arith in w));
          more = λ z m. Memᴰ.tail (t.1.more z m);
          less = less';
          all = all';
          same = λ j ne. OrderLaws.written_away new_entry (t.0 ++ W.log) j ne ∙ t.1.same j ne;
          vals = λ j ne. OrderLaws.value_away G.f new_entry (t.0 ++ W.log) j ne ∙ t.1.vals j ne;
        },
      )
        where
          new_entry : Entry
          new_entry = Log.entry W.w k (write d.0) i done

          less' : (z : Entry) → Memᴰ z (new_entry ∷ t.0 ++ W.log) → Memᴰ z W.log ⊎ Newer (suc k) z
          less' z m =
              ⊎_elim
              (λ (y : z ≡ new_entry). inr
              (record { r = k; v = d.0; stored = d.1; since = ap (λ (u : Entry). u.began) y; below = omega arith; other = h }))
              (λ (y : Memᴰ z (t.0 ++ W.log)). wider z (t.1.less z y)) (Memᴰ.cases_cons m)

          all' : (r v : ℕ) → r < suc k → r ≢ x → Stored (W.w.lane r) i v → Memᴰ (Log.entry W.w r (write v) i done) (new_entry ∷ t.0 ++ W.log)
          all' r v hr ne s = by (ℕ_discrete r k)
            where
              by : Dec (r ≡ k) → Memᴰ (Log.entry W.w r (write v) i done) (new_entry ∷ t.0 ++ W.log)
              by (no y) = Memᴰ.tail (t.1.all r v (lower r hr y) ne s)
              by (yes y) = let b = busy_of k d.0 d.1 in
                  let c = busy_of r v s in
                  let u : busy (write v) i c.0 ≡ busy (write d.0) i b.0 = sym c.1 ∙ ap W.w.lane y ∙ b.1 in
                  let vv : v ≡ d.0 = cc in
                  let eq : Log.entry W.w r (write v) i done ≡ new_entry = rw (y, vv) in Memᴰ.head eq
