-- The invariant: what holds of a run, its lanes, its cells and its order so far.
-- Assumes nothing.
use Rattle.std.specs.Prelude.{◌≡◌, ◌⊎◌, ◌≢◌, Bool, true, false, ℕ, suc, ◌≤◌, ◌<◌}
use mathlib.Core.List.{Memᴰ}
use Rattle.theory.specs.Array.{Op, read}
use Rattle.theory.specs.Order.{Done, Entry, Orderly, Is, value_in, written_in}
use Rattle.theory.specs.Machine.{Grid, Link, mk, Seen, Marking, Stage, marking, Lane, idle, busy, Mem}
use Rattle.theory.specs.OneOrder.{Under}
use Rattle.theory.specs.Standing.{settled}
use Rattle.theory.specs.World.{World, Swapped, Unplaced}
use Rattle.theory.specs.Claims.{Writes, Stored, Fresh, Sure, Dud, Mine}

-- once the tombstone is stored, the place is not the remembered link's
abbrev pub Clear : Bool → ℕ → Seen → ℕ → Type 0
Clear true q S n = S.at ≢ mk q n
Clear false q S n = Unit {0}

-- what holds of process q's lane while it marks cell i, with these words and used places
module _ (G : Grid) (old_link : ℕ → Link) (M : Mem) (used : ℕ → ℕ) where
  -- the remembered link is the old one: before place n's mark is stored, and after
  pub record Making (q i : ℕ) (S : Seen) (n : ℕ) : Type 0 where
    pub bad : S.at ≡ old_link i
    pub low : M.in_force q ≤ n
    pub high : n ≤ used q

  pub record Marked (q i : ℕ) (S : Seen) (n : ℕ) : Type 0 where
    pub bad : S.at ≡ old_link i
    pub high : n < used q
    pub there : M.marks q n ≡ G.code i

  abbrev pub MarkingOk : ℕ → ℕ → Marking → Type 0
  MarkingOk q i (Marking.draw s S n) = Making q i S n × Clear s q S n
  MarkingOk q i (Marking.enter s S n) = Making q i S n × Clear s q S n
  MarkingOk q i (Marking.tombstone S n) = Making q i S n × (S.at ≡ mk q n)
  MarkingOk q i (Marking.mark S n) = Making q i S n × (S.at ≢ mk q n)
  MarkingOk q i (Marking.force S n) = Marked q i S n × (M.in_force q ≤ n)
  MarkingOk q i (Marking.swap S n) = Marked q i S n × (M.in_force q ≡ suc n)
  MarkingOk q i (Marking.take_back n) = (M.link i ≢ old_link i) × (M.in_force q ≡ suc n)

module _ (G : Grid) (old_link : ℕ → Link) (W : World) where
  -- An operation in its check, by what (a) found: the cell's swapped link, and the check will pass; or the old link, and it
  -- will fail.
  pub data Judged (q : ℕ) (o : Op) (i : ℕ) (S : Seen) : Type 0 where
    sure : Swapped G old_link W i → W.w.mem.link i ≡ S.at → Sure G old_link W q o i → Judged q o i S
    dud : S.at ≡ old_link i → Dud G old_link W q o i → Judged q o i S

  -- what holds of process q's operation o on cell i at each stage
  abbrev pub StageOk : ℕ → Op → ℕ → Stage → Type 0
  StageOk q o i Stage.store = Unplaced G old_link W q × ((v : ℕ) × Writes o v)
  StageOk q o i Stage.check_link = Fresh G old_link W q o i
  StageOk q o i (Stage.check_marks S) = Judged q o i S × (S.at.proc < G.p)
  StageOk q o i (Stage.check_directory S) = Judged q o i S × (S.at.proc < G.p) × (S.at.place < W.used S.at.proc)
  StageOk q o i (Stage.check_mark S) = Judged q o i S × (S.at.proc < G.p) × (S.at.place < W.used S.at.proc)
  StageOk q o i Stage.fetch = (o ≡ read) × Swapped G old_link W i × Unplaced G old_link W q
  StageOk q o i (marking k) = Mine G old_link W q o i × MarkingOk G old_link W.w.mem W.used q i k

  pub record BusyOk (q : ℕ) (o : Op) (i : ℕ) (g : Stage) : Type 0 where
    pub proc : q < G.p
    pub cell : i < G.m
    pub past : W.w.since q < W.w.now
    pub at : StageOk q o i g

  abbrev pub LaneOk : ℕ → Lane → Type 0
  LaneOk q idle = Unit {0}
  LaneOk q (busy o i g) = BusyOk q o i g

  -- A cell that was never swapped is unwritten, shows its old link, and if any write has stored to it, one has stored its
  -- reading. A swapped cell is written, holds the array's value, and its link names a settled place that holds its mark.
  pub data CellOk (i : ℕ) : Type 0 where
    old : written_in W.log i ≡ false → W.w.mem.link i ≡ old_link i
        → ((r v : ℕ) → Stored (W.w.lane r) i v → (r' : ℕ) × Stored (W.w.lane r') i (W.w.mem.reading i)) → CellOk i
    new : Swapped G old_link W i → written_in W.log i ≡ true → value_in G.f W.log i ≡ W.w.mem.reading i
        → (W.w.mem.link i).proc < G.p
        → (W.w.mem.link i).place < settled (W.w.lane (W.w.mem.link i).proc) (W.w.mem.in_force (W.w.mem.link i).proc)
        → W.w.mem.marks (W.w.mem.link i).proc (W.w.mem.link i).place ≡ G.code i → CellOk i

  -- The order so far: orderly, before now; every ended operation is in it, and besides only operations under way; and no
  -- ended operation is under way.
  pub record LogOk : Type 0 where
    pub orderly : Orderly G.f W.log
    pub early : (e : Entry) → Memᴰ e W.log → e.at < W.w.now
    pub complete : (d : Done) → Memᴰ d W.w.ended → (e : Entry) × Memᴰ e W.log × Is e d
    pub sound : (e : Entry) → Memᴰ e W.log → ((d : Done) × Memᴰ d W.w.ended × Is e d) ⊎ Under W.w e
    pub over : (d : Done) → Memᴰ d W.w.ended → (q : ℕ) (o : Op) (i : ℕ) (g : Stage) → W.w.lane q ≡ busy o i g
        → d.began ≢ W.w.since q

  -- `counts`: settled marks, marks in force and used places, none more than the next. `places`: a used place marks no cell
  -- whose old link it is. `apart`: two operations under way began at two calls.
  pub record Inv : Type 0 where
    pub lanes : (q : ℕ) → LaneOk q (W.w.lane q)
    pub cells : (i : ℕ) → i < G.m → CellOk i
    pub counts : (q : ℕ) → (settled (W.w.lane q) (W.w.mem.in_force q) ≤ W.w.mem.in_force q) × (W.w.mem.in_force q ≤ W.used q)
    pub places : (q n i : ℕ) → i < G.m → n < W.used q → W.w.mem.marks q n ≡ G.code i → old_link i ≢ mk q n
    pub apart : (q r : ℕ) (o o' : Op) (i i' : ℕ) (g g' : Stage) → W.w.lane q ≡ busy o i g → W.w.lane r ≡ busy o' i' g'
        → W.w.since q ≡ W.w.since r → q ≡ r
    pub logs : LogOk
