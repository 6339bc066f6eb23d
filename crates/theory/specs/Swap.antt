-- The swap, whatever it certifies: when it is won, when it is lost, and what it leaves of the own lane.
-- Assumes nothing.
use Rattle.std.specs.Prelude.{◌≡◌, refl, ◌≢◌, ℕ}
use Rattle.std.proofs.Math.Path.{sym}
use Rattle.std.proofs.Common.{◌∙◌}
use native.Mathlib.Omega.{arith}
use Rattle.theory.specs.Array.{Op}
use Rattle.theory.specs.Machine.{Grid, Link, mk, Seen, Marking, marking, busy, Next, go, next_lane}
use Rattle.theory.specs.Standing.{settled}
use Rattle.theory.specs.World.{World, Swapped}
use Rattle.theory.specs.Inv.{BusyOk, CellOk, old, new, Inv}
use Rattle.theory.specs.Log.{turned}
use Rattle.theory.specs.Calm.{Own}
use Rattle.theory.specs.Steps
use Rattle.theory.specs.Mark.{go_on}

module _ {G : Grid} {old_link : ℕ → Link} {W : World} (I : Inv G old_link W) (q : ℕ) {o : Op} {i : ℕ} {S : Seen} {n : ℕ}
    (e : W.w.lane q ≡ busy o i (marking (Marking.swap S n))) where
  at_swap : BusyOk G old_link W q o i (marking (Marking.swap S n))
  at_swap = Steps.busy_ok I q e

  -- while the link is the remembered one it is the old one
  pub unswapped : W.w.mem.link i ≡ S.at → W.w.mem.link i ≡ old_link i
  unfolding at_swap
  unswapped k = k ∙ at_swap.at.1.0.bad

  -- the swap is lost only where another has swapped
  pub lost : W.w.mem.link i ≢ S.at → Swapped G old_link W i
  unfolding at_swap
  lost k = by (I.cells i at_swap.cell)
    where
      by : CellOk G old_link W i → Swapped G old_link W i
      by (old t h s) = absurd (k (h ∙ sym at_swap.at.1.0.bad))
      by (new t w y p₀ p₁ p₂) = t

  pub lose : W.w.mem.link i ≢ S.at → Inv G old_link (turned W q o i W.w.mem W.used (go (marking (Marking.take_back n))) W.log)
  unfolding at_swap
  lose k = go_on I q o i (Marking.swap S n) (Marking.take_back n) e W.w.mem.in_force W.w.mem.drawn W.w.mem.marks W.used
      (Steps.own_same I q e W.w.mem (λ r. refl) (λ r n. refl) (go (marking (Marking.take_back n))) refl) (lost k, at_swap.at.1.1)

  -- the own place is not the old link
  pub fresh_place : mk q n ≢ old_link i
  unfolding at_swap
  fresh_place k = I.places q n i at_swap.cell at_swap.at.1.0.high at_swap.at.1.0.there (sym k)

  pub own_swap : (reading : ℕ → ℕ) (link : ℕ → Link) (nx : Next) → ((c : ℕ) → settled (next_lane o i nx) c ≡ c)
      → Own I q e (record { reading = reading; link = link; in_force = W.w.mem.in_force; drawn = W.w.mem.drawn; marks = W.w.mem.marks }) W.used nx
  unfolding at_swap
  own_swap reading link nx hs = record {
    in_force = λ r ne. refl;
    marks = λ r k ne. refl;
    used_other = λ r ne. refl;
    up = omega arith;
    rise = rw hs (omega (arith, at_swap.at.1.1));
    kept = λ k h. refl;
    counts = rw hs (omega arith, (I.counts q).1);
    places = I.places q;
  }
