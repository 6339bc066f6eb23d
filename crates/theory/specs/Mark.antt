-- Rules 3 to 6 and 8, the steps on the own lane's places: drawing, tombstone, mark, marks in force, take-back.
-- Assumes nothing.
use Rattle.std.specs.Prelude.{◌≡◌, ◌≢◌, Bool, ℕ, suc, ◌≤◌, ◌<◌, max}
use Rattle.std.proofs.Math.Path.{refl}
use Rattle.std.proofs.Common.{sym, ap, ◌∙◌}
use Rattle.std.proofs.Math.Bool.{true}
use mathlib.Core.List.{[]}
use Rattle.std.proofs.Math.Decide.{ℕ_discrete}
use native.Mathlib.Omega.{arith}
use Rattle.theory.specs.Base.{upd, upd_same, upd_other}
use Rattle.theory.specs.Array.{Op, read, asked, write, done}
use Rattle.theory.specs.Machine.{Grid, Lawful, Link, mk, Seen, Marking, marking, busy, Mem, set_in_force, set_mark, go, end, poke, use_place, plan}
use Rattle.theory.specs.Standing.{settled_at}
use Rattle.theory.specs.Order.{written_in}
use Rattle.theory.specs.World.{World}
use Rattle.theory.specs.Claims.{Wrote}
use Rattle.theory.specs.Inv.{MarkingOk, BusyOk, Inv}
use Rattle.theory.specs.Plan
use Rattle.theory.specs.Plan.{Stands}
use Rattle.theory.specs.Log.{turned}
use Rattle.theory.specs.ClaimsKept.{mine_same}
use Rattle.theory.specs.Calm.{Own}
use Rattle.theory.specs.Steps
use Rattle.theory.specs.Steps.{Kept, KeptAt}
use Rattle.theory.specs.Check.{swapped_cell}

module _ {G : Grid} {old_link : ℕ → Link} {W : World} (I : Inv G old_link W) (q : ℕ) (o : Op) (i : ℕ) where
  abbrev M : Mem
  M = W.w.mem

  -- the words after a step that leaves readings and links
  abbrev lanes : (ℕ → ℕ) → (ℕ → ℕ) → (ℕ → ℕ → ℕ) → Mem
  lanes in_force drawn marks = record { reading = M.reading; link = M.link; in_force = in_force; drawn = drawn; marks = marks }

  -- such a step, from one marking to the next, leaves the order
  pub go_on : (k k' : Marking) (e : W.w.lane q ≡ busy o i (marking k)) (in_force drawn : ℕ → ℕ) (marks : ℕ → ℕ → ℕ) (used : ℕ → ℕ)
      → Own I q e (lanes in_force drawn marks) used (go (marking k')) → MarkingOk G old_link (lanes in_force drawn marks) used q i k'
      → Inv G old_link (turned W q o i (lanes in_force drawn marks) used (go (marking k')) W.log)
  go_on k k' e in_force drawn marks used O h =
      Steps.go_calm I q e (lanes in_force drawn marks) used W.log (Steps.mild_keep I q e) (λ j. refl) (λ j. refl) (marking k') O tt tt
      (mine_same G old_link W q i (lanes in_force drawn marks) used (go (marking k')) o (Steps.busy_ok I q e).at.0, h)

  -- 3. Drawing: no cell and no mark changes.
  pub draws : (s : Bool) (S : Seen) (n : ℕ) → W.w.lane q ≡ busy o i (marking (Marking.draw s S n)) → KeptAt G old_link W q o i (marking (Marking.draw s S n))
  unfolding Kept
  draws s S n e = let h = (Steps.busy_ok I q e).at.1 in (
    [],
    go_on (Marking.draw s S n) (Marking.enter s S n) e M.in_force (upd M.drawn q (suc (G.shape.seg n))) M.marks W.used
        (Steps.own_same I q e _ (λ r. refl) (λ r n. refl) (go (marking (Marking.enter s S n))) refl)
        (record { bad = h.0.bad; low = h.0.low; high = h.0.high }, h.1),
  )

  pub enters : (s : Bool) (S : Seen) (n : ℕ) → W.w.lane q ≡ busy o i (marking (Marking.enter s S n))
      → KeptAt G old_link W q o i (marking (Marking.enter s S n))
  unfolding Kept
  enters s S n e = let h = (Steps.busy_ok I q e).at.1 in (
    [],
    go_on (Marking.enter s S n) (use_place s q S n) e M.in_force M.drawn M.marks W.used
        (Steps.own_same I q e M (λ r. refl) (λ r n. refl) (go (marking (use_place s q S n))) (Plan.use_stands s q S n (M.in_force q) h.1).settled)
        (Plan.use_ok G old_link M W.used s q i S n h.0 h.1),
  )

  -- storing c at place n of the own lane
  abbrev stamped : ℕ → ℕ → Mem
  stamped n c = poke M q (set_mark n c)

  abbrev raised : ℕ → ℕ → ℕ
  raised n = upd W.used q (max (W.used q) (suc n))

  raised_own : (n : ℕ) → raised n q ≡ max (W.used q) (suc n)
  raised_own n = upd_same W.used q (max (W.used q) (suc n))

  stamped_same : (n c : ℕ) → (stamped n c).marks q n ≡ c
  stamped_same n c = rw (upd_same M.marks q (upd (M.marks q) n c)) (upd_same (M.marks q) n c)

  stamped_other : (n c k : ℕ) → k ≢ n → (stamped n c).marks q k ≡ M.marks q k
  stamped_other n c k ne = rw (upd_same M.marks q (upd (M.marks q) n c)) (upd_other (M.marks q) n c k ne)

  stamped_away : (n c r k : ℕ) → r ≢ q → (stamped n c).marks r k ≡ M.marks r k
  stamped_away n c r k ne = rw (upd_other M.marks q (upd (M.marks q) n c) r ne)

  -- the lane's own numbers and marks after such a store, at a place that is not in force
  own_stamp : (k : Marking) (e : W.w.lane q ≡ busy o i (marking k)) (n c : ℕ) (k' : Marking)
      → settled_at (marking k) (M.in_force q) ≡ M.in_force q → settled_at (marking k') (M.in_force q) ≡ M.in_force q
      → M.in_force q ≤ n → n ≤ W.used q → ((j : ℕ) → j < G.m → c ≡ G.code j → old_link j ≢ mk q n)
      → Own I q e (stamped n c) (raised n) (go (marking k'))
  own_stamp k e n c k' hs hs' low high fine = record {
    in_force = λ r ne. refl;
    marks = λ r k ne. stamped_away n c r k ne;
    used_other = λ r ne. upd_other W.used q (max (W.used q) (suc n)) r ne;
    up = rw (raised_own n) (omega arith);
    rise = omega arith;
    kept = λ k h. stamped_other n c k (λ z. let y : suc n ≤ n = rw z at (below k h) in omega arith);
    counts = (omega arith, rw (raised_own n) (omega arith));
    places = places';
  }
    where
      below : (j : ℕ) → j < settled_at (marking k) (M.in_force q) → j < n
      below j h = omega arith

      places' : (k j : ℕ) → j < G.m → k < raised n q → (stamped n c).marks q k ≡ G.code j → old_link j ≢ mk q k
      places' k j hj hk h = by (ℕ_discrete k n)
        where
          by : Dec (k ≡ n) → old_link j ≢ mk q k
          by (yes z) = rw z (fine j hj (sym (stamped_same n c) ∙ ap (λ (x : ℕ). (stamped n c).marks q x) (sym z) ∙ h))
          by (no z) = I.places q k j hj (let y : k < max (W.used q) (suc n) = rw (raised_own n) at hk in omega arith) (sym (stamped_other n c k z) ∙ h)

  -- 4. The tombstone.
  pub tombstones : Lawful G → (S : Seen) (n : ℕ) → W.w.lane q ≡ busy o i (marking (Marking.tombstone S n))
      → KeptAt G old_link W q o i (marking (Marking.tombstone S n))
  unfolding Kept
  tombstones A S n e = (
    [],
    go_on (Marking.tombstone S n) k' e M.in_force M.drawn (stamped n G.grave).marks (raised n)
        (own_stamp (Marking.tombstone S n) e n G.grave k' refl st.settled h.0.low h.0.high (λ j hj k. absurd (A.apart j hj k)))
        (Plan.plan_ok G old_link (stamped n G.grave) (raised n) true q i S (suc n)
        (record { bad = h.0.bad; low = omega (arith, h.0.low); high = rw (raised_own n) (omega arith) }) (Plan.past_tombstone q S n h.1) M),
  )
    where
      h : MarkingOk G old_link M W.used q i (Marking.tombstone S n)
      h = (Steps.busy_ok I q e).at.1

      k' : Marking
      k' = plan G true M q S (suc n)

      st : Stands (suc n) (M.in_force q) (plan G true M q S (suc n))
      st = Plan.plan_stands G true M q S (suc n) (M.in_force q) (Plan.past_tombstone q S n h.1)

  -- 5. The mark.
  pub marks_place : Lawful G → (S : Seen) (n : ℕ) → W.w.lane q ≡ busy o i (marking (Marking.mark S n))
      → KeptAt G old_link W q o i (marking (Marking.mark S n))
  unfolding Kept
  marks_place A S n e = (
    [],
    go_on (Marking.mark S n) (Marking.force S n) e M.in_force M.drawn (stamped n (G.code i)).marks (raised n)
        (own_stamp (Marking.mark S n) e n (G.code i) (Marking.force S n) refl refl h.0.low h.0.high fine)
        (record { bad = h.0.bad; high = rw (raised_own n) (omega arith); there = stamped_same n (G.code i) }, h.0.low),
  )
    where
      h : MarkingOk G old_link M W.used q i (Marking.mark S n)
      h = (Steps.busy_ok I q e).at.1

      fine : (j : ℕ) → j < G.m → G.code i ≡ G.code j → old_link j ≢ mk q n
      fine j hj k z = h.1 (h.0.bad ∙ ap old_link (A.inj i j (Steps.busy_ok I q e).cell hj k) ∙ z)

  -- 6. The marks in force.
  pub forces : (S : Seen) (n : ℕ) → W.w.lane q ≡ busy o i (marking (Marking.force S n)) → KeptAt G old_link W q o i (marking (Marking.force S n))
  unfolding Kept
  forces S n e = (
    [],
    go_on (Marking.force S n) (Marking.swap S n) e (upd M.in_force q (suc n)) M.drawn M.marks W.used
        (record {
          in_force = λ r ne. upd_other M.in_force q (suc n) r ne;
          marks = λ r k ne. refl;
          used_other = λ r ne. refl;
          up = omega arith;
          rise = h.1;
          kept = λ k y. refl;
          counts = rw now (omega arith, h.0.high);
          places = I.places q;
        })
        (record { bad = h.0.bad; high = h.0.high; there = h.0.there }, now),
  )
    where
      h : MarkingOk G old_link M W.used q i (Marking.force S n)
      h = (Steps.busy_ok I q e).at.1

      now : upd M.in_force q (suc n) q ≡ suc n
      now = upd_same M.in_force q (suc n)

  -- 8. The take-back.
  back_ends : (n : ℕ) (e : W.w.lane q ≡ busy o i (marking (Marking.take_back n))) → Wrote G old_link W q o i
      → Inv G old_link (turned W q o i (poke M q (set_in_force n)) W.used (end done) W.log)
  back_ends n e x =
      Steps.end_calm I q e (poke M q (set_in_force n)) W.used W.log (Steps.mild_keep I q e) (λ j. refl) (λ j. refl) done (x.new w).0
      (record {
        in_force = λ r ne. upd_other M.in_force q n r ne;
        marks = λ r k ne. refl;
        used_other = λ r ne. refl;
        up = omega arith;
        rise = rw now (omega arith);
        kept = λ k h. refl;
        counts = rw now (omega arith, omega (arith, (I.counts q).1, b.at.1.1));
        places = I.places q;
      })
      (λ v h. b.at.1.0) (x.new w).1
    where
      b : BusyOk G old_link W q o i (marking (Marking.take_back n))
      b = Steps.busy_ok I q e

      now : upd M.in_force q n q ≡ n
      now = upd_same M.in_force q n

      w : written_in W.log i ≡ true
      w = (swapped_cell I i b.cell b.at.1.0).is_written

pub takes_back : {G : Grid} {old_link : ℕ → Link} {W : World} (I : Inv G old_link W) (q : ℕ) (o : Op) (i : ℕ) (n : ℕ)
    → W.w.lane q ≡ busy o i (marking (Marking.take_back n)) → KeptAt G old_link W q o i (marking (Marking.take_back n))
unfolding Kept
takes_back I q read i n e = absurd (Steps.busy_ok I q e).at.0
takes_back I q asked i n e = absurd (Steps.busy_ok I q e).at.0
takes_back I q (write v) i n e = ([], back_ends I q (write v) i n e (Steps.busy_ok I q e).at.0)
