-- The swap of a write: won, all stored writes of the cell take their places, the one whose value is the reading last.
-- Assumes nothing.
use Rattle.std.specs.Prelude.{◌≡◌, ◌⊎◌, ◌≢◌, true, false, ℕ, ◌<◌}
use Rattle.std.proofs.Math.Path.{refl, ap}
use Rattle.std.proofs.Common.{sym, ◌∙◌, subst, arith}
use Rattle.std.proofs.Math.Logic.{inl, inr, ⊎_elim}
use mathlib.Core.List.Memᴰ
use mathlib.Core.List.{List, [], ◌∷◌, ◌++◌, Memᴰ}
use Rattle.std.proofs.Math.Decide.{ℕ_discrete}
use Rattle.theory.specs.Base.{pick, upd, upd_same, upd_other}
use Rattle.theory.specs.Array.{Op, read, asked, write, done}
use Rattle.theory.specs.Order.{Entry, value_in, written_in}
use Rattle.theory.specs.Machine.{Grid, Link, mk, Seen, Marking, Stage, marking, idle, busy, Mem, keep, set_link, go, end, turn_to, poke, same_link}
use Rattle.theory.specs.Standing.{After}
use Rattle.theory.specs.OrderLaws
use Rattle.theory.specs.World.{World, Swapped, Unplaced}
use Rattle.theory.specs.Claims.{Writes, Stored, Wrote}
use Rattle.theory.specs.Inv.{BusyOk, CellOk, old, new, Inv}
use Rattle.theory.specs.Log
use Rattle.theory.specs.Log.{Pre}
use Rattle.theory.specs.ClaimsKept.{NotStored, Frame}
use Rattle.theory.specs.Calm.{Own, complete_inv, still_cell}
use Rattle.theory.specs.Steps.{Kept, KeptAt, busy_ok}
use Rattle.theory.specs.Swap
use Rattle.theory.specs.Sweep
use Rattle.theory.specs.Sweep.{Newer, Swept}

module _ {G : Grid} {old_link : ℕ → Link} {W : World} (I : Inv G old_link W) (q : ℕ) (u : ℕ) (i : ℕ) (S : Seen) (n : ℕ)
    (e : W.w.lane q ≡ busy (write u) i (marking (Marking.swap S n))) where
  abbrev M : Mem
  M = W.w.mem

  abbrev o : Op
  o = write u

  b : BusyOk G old_link W q o i (marking (Marking.swap S n))
  b = busy_ok I q e

  -- while the link is the remembered one the cell is unwritten
  not_yet : M.link i ≡ S.at → CellOk G old_link W i
      → (written_in W.log i ≡ false) × ((r v : ℕ) → Stored (W.w.lane r) i v → (r' : ℕ) × Stored (W.w.lane r') i (M.reading i))
  not_yet k (old t h s) = (t, s)
  not_yet k (new t w y p₀ p₁ p₂) = absurd (t (Swap.unswapped I q e k))

  me : Stored (busy o i (marking (Marking.swap S n))) i b.at.0.v
  me = (b.at.0.is, refl, tt)

  M' : Mem
  M' = poke M q (set_link i (mk q n))

  O : Own I q e M' W.used (end done)
  unfolding M'
  O = Swap.own_swap I q e M.reading (upd M.link i (mk q n)) (end done) (λ c. refl)

  -- the swap itself: x is the process whose store came last
  module _ (hl : M.link i ≡ old_link i) (t : written_in W.log i ≡ false) (x : ℕ) (sx : Stored (W.w.lane x) i (M.reading i)) where
    swept : (newer : List Entry) × Swept I i x t G.p (newer ++ W.log)
    swept = Sweep.sweep I i x t G.p

    last : Entry
    last = Log.entry W.w x (write (M.reading i)) i done

    abbrev added : List Entry
    added = last ∷ swept.0

    log' : List Entry
    log' = added ++ W.log

    W'' : World
    W'' = Log.turned W q o i M' W.used (end done) log'

    pre' : Pre G old_link W log'
    unfolding log' last
    pre' = Sweep.put I i x t G.p (swept.0 ++ W.log) swept.1 x (M.reading i) sx (λ y hy ne. ne)

    more' : (z : Entry) → Memᴰ z W.log → Memᴰ z log'
    unfolding log'
    more' z m = Memᴰ.tail (swept.1.more z m)

    -- what is new in the order is a stored write of this cell
    less' : (z : Entry) → Memᴰ z log' → Memᴰ z W.log ⊎ ((r : ℕ) × (v : ℕ) × (z.began ≡ W.w.since r) × Stored (W.w.lane r) i v)
    unfolding log' last
    less' z m = ⊎_elim (λ (h : z ≡ last). inr (x, M.reading i, ap (λ (u : Entry). u.began) h, sx))
        (λ (h : Memᴰ z (swept.0 ++ W.log)). ⊎_elim (λ (y : Memᴰ z W.log). inl y)
        (λ (y : Newer I i x t G.p z). inr (y.r, y.v, y.since, y.stored)) (swept.1.less z h))
        (Memᴰ.cases_cons m)

    -- every stored write of this cell is in the order
    all' : (r v : ℕ) → Stored (W.w.lane r) i v → Memᴰ (Log.entry W.w r (write v) i done) log'
    unfolding log' last
    all' r v s = by (ℕ_discrete r x)
      where
        c : (g : Stage) × (W.w.lane r ≡ busy (write v) i g) × After g × BusyOk G old_link W r (write v) i g
        c = Sweep.busy_of I i x t r v s

        by : Dec (r ≡ x) → Memᴰ (Log.entry W.w r (write v) i done) log'
        by (no y) = Memᴰ.tail (swept.1.all r v c.3.proc y s)
        by (yes y) = let d = Sweep.busy_of I i x t x (M.reading i) sx in
            let u : busy (write v) i c.0 ≡ busy (write (M.reading i)) i d.0 = sym c.1 ∙ ap W.w.lane y ∙ d.1 in
            let vv : v ≡ M.reading i = cc in
            let eq : Log.entry W.w r (write v) i done ≡ last = rw (y, vv) in Memᴰ.head eq

    written' : written_in log' i ≡ true
    unfolding log' last
    written' = OrderLaws.written_here last (swept.0 ++ W.log) (M.reading i) i refl refl

    value' : value_in G.f log' i ≡ M.reading i
    unfolding log' last
    value' = OrderLaws.value_here G.f last (swept.0 ++ W.log) (M.reading i) i refl refl

    same' : (j : ℕ) → j ≢ i → written_in log' j ≡ written_in W.log j
    unfolding log' last
    same' j ne = OrderLaws.written_away last (swept.0 ++ W.log) j ne ∙ swept.1.same j ne

    vals' : (j : ℕ) → j ≢ i → value_in G.f log' j ≡ value_in G.f W.log j
    unfolding log' last
    vals' j ne = OrderLaws.value_away G.f last (swept.0 ++ W.log) j ne ∙ swept.1.vals j ne

    apart_i : (j : ℕ) → Swapped G old_link W j → j ≢ i
    apart_i j h z = h (subst (λ (y : ℕ). M.link y ≡ old_link y) (sym z) hl)

    -- an unplaced lane that has not stored to this cell stays unplaced
    un : (r : ℕ) (o₁ : Op) (i₁ : ℕ) (g₁ : Stage) → W.w.lane r ≡ busy o₁ i₁ g₁ → ((v : ℕ) → Stored (busy o₁ i₁ g₁) i v → ⊥) → Unplaced G old_link W r
        → (z : Entry) → Memᴰ z log' → z.began ≢ W.w.since r
    un r o₁ i₁ g₁ k ns u z m h = ⊎_elim (λ (y : Memᴰ z W.log). u z y h)
        (λ (y : (r : ℕ) × (v : ℕ) × (z.began ≡ W.w.since r) × Stored (W.w.lane r) i v). let c = Sweep.busy_of I i x t y.0 y.1 y.3 in
        let same_lane : y.0 ≡ r = I.apart y.0 r (write y.1) o₁ i i₁ c.0 g₁ c.1 k (sym y.2 ∙ h) in ns y.1 (rw k at (rw same_lane at y.3)))
        (less' z m)

    frame : Frame G old_link q W W''
    unfolding W'' M' NotStored
    frame = record {
      lane = λ r ne. upd_other W.w.lane q idle r ne;
      in_force = λ r ne. refl;
      marks = λ r k ne. refl;
      used = λ r ne. refl;
      up = λ r. omega arith;
      since = λ r o₁ i₁ g₁ ne k. refl;
      now = omega arith;
      link = λ j h. upd_other M.link i (mk q n) j (apart_i j h);
      more = more';
      fresh = λ r o₁ i₁ g₁ ne k ns u. un r o₁ i₁ g₁ k (λ v. ns i v) u;
      wrote = wrote';
    }
      where
        wrote' : (r : ℕ) (o₁ : Op) (i₁ : ℕ) (g₁ : Stage) → r ≢ q → W.w.lane r ≡ busy o₁ i₁ g₁ → After g₁ → Wrote G old_link W r o₁ i₁
            → Wrote G old_link W'' r o₁ i₁
        wrote' r o₁ i₁ g₁ ne k a h = by (ℕ_discrete i₁ i)
          where
            is_write : (o₁ : Op) (v : ℕ) → Writes o₁ v → o₁ ≡ write v
            is_write read v z = absurd z
            is_write asked v z = absurd z
            is_write (write y) v z = ap write z

            by : Dec (i₁ ≡ i) → Wrote G old_link W'' r o₁ i₁
            by (yes z) = record {
              v = h.v;
              is = h.is;
              new = λ t₁. (W.w.now, rw (is_write o₁ h.v h.is, z) (all' r h.v (rw k (h.is, z, a))));
              old = λ t₁. OrderLaws.no_false (sym written' ∙ ap (written_in log') (sym z) ∙ t₁);
            }
            by (no z) = record {
              v = h.v;
              is = h.is;
              new = λ t₁. let y = h.new (sym (same' i₁ z) ∙ t₁) in (y.0, more' _ y.1);
              old = λ t₁. un r o₁ i₁ g₁ k (λ v s. z s.1) (h.old (sym (same' i₁ z) ∙ t₁));
            }

    cells' : (j : ℕ) → j < G.m → CellOk G old_link W'' j
    unfolding W'' M'
    cells' j hj = by (ℕ_discrete j i)
      where
        linked : upd M.link i (mk q n) i ≡ mk q n
        linked = upd_same M.link i (mk q n)

        mine : upd W.w.lane q idle q ≡ idle
        mine = upd_same W.w.lane q idle

        by : Dec (j ≡ i) → CellOk G old_link W'' j
        by (yes z) =
            rw z
            (new (rw linked (Swap.fresh_place I q e)) written' value' (rw linked b.proc) (rw linked (rw mine (omega (arith, b.at.1.1))))
            (rw linked b.at.1.0.there))
        by (no z) = still_cell I q e M' W.used (end done) log' O j
            (record {
              same = same' j z;
              vals = vals' j z;
              link = upd_other M.link i (mk q n) j z;
              reading = refl;
              hold = λ v u s. absurd (z (sym s.1));
              from = λ v s. absurd s;
            })
            hj

    swapped : Inv G old_link W''
    unfolding W''
    swapped = complete_inv I q e M' W.used (end done) log' O frame tt cells'
        (Log.log_end q e M' W.used pre' done W.w.now (all' q u (rw e (refl, refl, tt))))

  write_swaps : KeptAt G old_link W q o i (marking (Marking.swap S n))
  unfolding Kept W'' M' log'
  write_swaps = by (same_link (M.link i) S.at)
    where
      by : (d : Dec (M.link i ≡ S.at))
          → Kept G old_link W q o i (pick d (turn_to (set_link i (mk q n)) (end done)) (turn_to keep (go (marking (Marking.take_back n))))) W.used
      by (yes k) = let h = Swap.unswapped I q e k in
          let z = not_yet k (I.cells i b.cell) in
          let y = z.1 q b.at.0.v (rw e me) in
          (added h z.0 y.0 y.1, swapped h z.0 y.0 y.1)
      by (no k) = ([], Swap.lose I q e k)

pub swaps : {G : Grid} {old_link : ℕ → Link} {W : World} (I : Inv G old_link W) (q : ℕ) (o : Op) (i : ℕ) (S : Seen) (n : ℕ)
    → W.w.lane q ≡ busy o i (marking (Marking.swap S n)) → KeptAt G old_link W q o i (marking (Marking.swap S n))
swaps I q read i S n e = absurd (busy_ok I q e).at.0
swaps I q asked i S n e = absurd (busy_ok I q e).at.0
swaps I q (write u) i S n e = write_swaps I q u i S n e
