-- A run with no operation under way: the order so far is of ended operations, and each cell's check tells what the array holds.
-- Assumes nothing.
use Rattle.std.specs.Prelude.{◌≡◌, ◌≢◌, true, false, ℕ, ◌<◌}
use Rattle.std.proofs.Common.{sym, ◌∙◌, ⊎_elim, arith}
use mathlib.Core.List.{Memᴰ}
use Rattle.theory.specs.Order.{Done, Entry, Is, value_in, written_in}
use Rattle.theory.specs.Machine.{Grid, idle, busy}
use Rattle.theory.specs.Run.{Run}
use Rattle.theory.specs.OrderLaws.{value_unwritten}
use Rattle.theory.specs.OneOrder.{Under}
use Rattle.theory.specs.Inv.{CellOk, old, new}
use Rattle.theory.proofs.Whole.{Whole, world_of}

module _ {G : Grid} {R : Run} (H : Whole G R) where
  -- the link that a cell shows: a place in force that marks the cell, or not
  module _ (i : ℕ) where
    abbrev proc : ℕ
    proc = (R.watch.mem.link i).proc

    abbrev place : ℕ
    place = (R.watch.mem.link i).place

    pub data CellAtRest : Type 0 where
      unwritten : written_in H.log i ≡ false → value_in G.f H.log i ≡ G.f i
          → (proc < G.p → place < R.watch.mem.in_force proc → R.watch.mem.marks proc place ≢ G.code i) → CellAtRest
      written : written_in H.log i ≡ true → value_in G.f H.log i ≡ R.watch.mem.reading i
          → proc < G.p → place < R.watch.mem.in_force proc → R.watch.mem.marks proc place ≡ G.code i → CellAtRest

  module _ (still : (q : ℕ) → R.watch.lane q ≡ idle) where
    pub all_ended : (e : Entry) → Memᴰ e H.log → (d : Done) × Memᴰ d R.watch.ended × Is e d
    all_ended e m =
        ⊎_elim (λ (h : (d : Done) × Memᴰ d R.watch.ended × Is e d). h)
        (λ (u : Under R.watch e). absurd
        (let k : idle ≡ busy e.op e.cell u.stage = sym (still e.who) ∙ u.lane in let y : ◌≡◌ {A = ℕ} 0 1 = cc in omega arith))
        (H.inv.logs.sound e m)

    pub cell_at_rest : (i : ℕ) → i < G.m → CellAtRest i
    cell_at_rest i h = by (H.inv.cells i h)
      where
        by : CellOk G H.old_link (world_of H) i → CellAtRest i
        by (old w l r) = unwritten w (value_unwritten G.f H.log i w)
            (λ hp hn e. H.inv.places (proc i) (place i) i h (omega (arith, (H.inv.counts (proc i)).1)) e (sym l))
        by (new c w v hp hn e) = written w v hp (rw (still (proc i)) at hn) e
