-- A swapped cell passes the check.
-- Assumes nothing.
use Rattle.std.specs.Prelude.{◌≡◌, true, ℕ, ◌<◌}
use Rattle.std.proofs.Common.{arith}
use Rattle.theory.specs.Order.{value_in, written_in}
use Rattle.theory.specs.Machine.{Grid, Link}
use Rattle.theory.specs.World.{World, Swapped}
use Rattle.theory.specs.Inv.{CellOk, old, new, Inv}

-- a swapped cell: its link passes every test of the check, it is written, and it holds its reading
module _ {G : Grid} {old_link : ℕ → Link} {W : World} (I : Inv G old_link W) (i : ℕ) (hi : i < G.m) (t : Swapped G old_link W i) where
  pub record Certificate : Type 0 where
    pub in_force_lem : (W.w.mem.link i).place < W.w.mem.in_force (W.w.mem.link i).proc
    pub reads_back : W.w.mem.marks (W.w.mem.link i).proc (W.w.mem.link i).place ≡ G.code i
    pub is_written : written_in W.log i ≡ true
    pub holds : value_in G.f W.log i ≡ W.w.mem.reading i

  pub swapped_cell : Certificate
  swapped_cell = by (I.cells i hi)
    where
      by : CellOk G old_link W i → Certificate
      by (old t₀ h s) = absurd (t h)
      by (new t₀ y x p₀ p₁ p₂) =
          record { in_force_lem = omega (arith, p₁, (I.counts (W.w.mem.link i).proc).0); reads_back = p₂; is_written = y; holds = x }
