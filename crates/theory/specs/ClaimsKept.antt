-- The claims of the other lanes after a step, and of the own lane after a step that leaves the order.
-- Assumes nothing.
use Rattle.std.specs.Prelude.{◌≡◌, ◌≢◌, true, false, ℕ, ◌≤◌}
use mathlib.Core.List.{Memᴰ}
use Rattle.theory.specs.Array.{Op, read, asked, write, Ans, got, told}
use Rattle.theory.specs.Order.{Entry}
use Rattle.theory.specs.Machine.{Grid, Link, Stage, check_link, Lane, busy, Mem, Next}
use Rattle.theory.specs.Standing.{After}
use Rattle.theory.specs.World.{World, Swapped, Placed, Unplaced}
use Rattle.theory.specs.Claims.{Stored, Wrote, Fresh, Sure, Dud, Mine}
use Rattle.theory.specs.Log.{turned}

unfoldable pub NotStored : Lane → Type 0
NotStored l = (j v : ℕ) → Stored l j v → ⊥

module _ (G : Grid) (old_link : ℕ → Link) where
  pub record Frame (q : ℕ) (W W' : World) : Type 0 where
    pub lane : (r : ℕ) → r ≢ q → W'.w.lane r ≡ W.w.lane r
    pub in_force : (r : ℕ) → r ≢ q → W'.w.mem.in_force r ≡ W.w.mem.in_force r
    pub marks : (r n : ℕ) → r ≢ q → W'.w.mem.marks r n ≡ W.w.mem.marks r n
    pub used : (r : ℕ) → r ≢ q → W'.used r ≡ W.used r
    pub up : (r : ℕ) → W.used r ≤ W'.used r
    pub since : (r : ℕ) (o : Op) (i : ℕ) (g : Stage) → r ≢ q → W.w.lane r ≡ busy o i g → W'.w.since r ≡ W.w.since r
    pub now : W.w.now ≤ W'.w.now
    pub link : (i : ℕ) → Swapped G old_link W i → W'.w.mem.link i ≡ W.w.mem.link i
    pub more : (e : Entry) → Memᴰ e W.log → Memᴰ e W'.log
    pub fresh : (r : ℕ) (o : Op) (i : ℕ) (g : Stage) → r ≢ q → W.w.lane r ≡ busy o i g → NotStored (busy o i g) → Unplaced G old_link W r
        → Unplaced G old_link W' r
    pub wrote : (r : ℕ) (o : Op) (i : ℕ) (g : Stage) → r ≢ q → W.w.lane r ≡ busy o i g → After g → Wrote G old_link W r o i → Wrote G old_link W' r o i

module _ {G : Grid} {old_link : ℕ → Link} {q : ℕ} {W W' : World} (F : Frame G old_link q W W') (r : ℕ) (ne : r ≢ q) where
  placed_frame : (o : Op) (i : ℕ) (g : Stage) (a : Ans) → W.w.lane r ≡ busy o i g → Placed G old_link W r o i a → Placed G old_link W' r o i a
  placed_frame o i g a e h = (h.0, rw (F.since r o i g ne e) (F.more _ h.1))

  pub fresh_frame : (o : Op) (i : ℕ) → W.w.lane r ≡ busy o i check_link → Fresh G old_link W r o i → Fresh G old_link W' r o i
  unfolding NotStored
  fresh_frame read i e h = F.fresh r read i check_link ne e (λ j v s. s.0) h
  fresh_frame asked i e h = F.fresh r asked i check_link ne e (λ j v s. s.0) h
  fresh_frame (write v) i e h = F.wrote r (write v) i check_link ne e tt h

  pub sure_frame : (o : Op) (i : ℕ) (g : Stage) → After g → W.w.lane r ≡ busy o i g → Sure G old_link W r o i → Sure G old_link W' r o i
  unfolding NotStored
  sure_frame read i g a e h = F.fresh r read i g ne e (λ j v s. s.0) h
  sure_frame asked i g a e h = placed_frame asked i g (told true) e h
  sure_frame (write v) i g a e h = F.wrote r (write v) i g ne e a h

  pub dud_frame : (o : Op) (i : ℕ) (g : Stage) → After g → W.w.lane r ≡ busy o i g → Dud G old_link W r o i → Dud G old_link W' r o i
  unfolding NotStored
  dud_frame read i g a e h = placed_frame read i g (got (G.f i) false) e h
  dud_frame asked i g a e h = placed_frame asked i g (told false) e h
  dud_frame (write v) i g a e h = F.wrote r (write v) i g ne e a h

  pub mine_frame : (o : Op) (i : ℕ) (g : Stage) → After g → W.w.lane r ≡ busy o i g → Mine G old_link W r o i → Mine G old_link W' r o i
  unfolding NotStored
  mine_frame read i g a e h = h
  mine_frame asked i g a e h = h
  mine_frame (write v) i g a e h = F.wrote r (write v) i g ne e a h

-- the same facts after a step that leaves the order and this lane's place in it alone
module _ (G : Grid) (old_link : ℕ → Link) (W : World) (q : ℕ) (o : Op) (i : ℕ) (M : Mem) (used : ℕ → ℕ) (nx : Next) where
  abbrev next : World
  next = turned W q o i M used nx W.log

  pub wrote_same : Wrote G old_link W q o i → Wrote G old_link next q o i
  wrote_same h = record { v = h.v; is = h.is; new = h.new; old = h.old }

module _ (G : Grid) (old_link : ℕ → Link) (W : World) (q : ℕ) (i : ℕ) (M : Mem) (used : ℕ → ℕ) (nx : Next) where
  pub sure_same : (o : Op) → Sure G old_link W q o i → Sure G old_link (turned W q o i M used nx W.log) q o i
  sure_same read h = h
  sure_same asked h = h
  sure_same (write v) h = wrote_same G old_link W q (write v) i M used nx h

  pub dud_same : (o : Op) → Dud G old_link W q o i → Dud G old_link (turned W q o i M used nx W.log) q o i
  dud_same read h = h
  dud_same asked h = h
  dud_same (write v) h = wrote_same G old_link W q (write v) i M used nx h

  pub mine_same : (o : Op) → Mine G old_link W q o i → Mine G old_link (turned W q o i M used nx W.log) q o i
  mine_same read h = h
  mine_same asked h = h
  mine_same (write v) h = wrote_same G old_link W q (write v) i M used nx h
