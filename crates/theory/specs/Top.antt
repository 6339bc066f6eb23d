-- The pool's top is the sum of what the lanes have drawn.
-- Assumes nothing.
use Rattle.std.specs.Prelude.{◌≡◌, ℕ, suc, ◌+◌, ◌^◌}
use Rattle.std.proofs.Math.Path.{ap}
use Rattle.std.proofs.Common.{arith}
use Rattle.theory.specs.Base.{pick}
use Rattle.theory.specs.Array.{Op}
use Rattle.theory.specs.Segments.{pow_pos}
use Rattle.theory.specs.Machine.{Grid, Link, mk, Marking, Stage, marking, busy}
use Rattle.theory.specs.Machine.{keep, set_link, go, turn_to, same_link, passed, mark_turn, take_turn, Watch, stepped}
use Rattle.theory.specs.Words.{Words, words_marked, words_after}
use Rattle.theory.specs.World.{World}
use Rattle.theory.specs.Inv.{Inv}
use Rattle.theory.specs.Steps.{busy_ok}
use Rattle.theory.specs.Sum.{sum, sum_upd}
use Rattle.theory.specs.Count.{handed}
use Rattle.theory.specs.Layout.{Layout}

module _ (G : Grid) where
  unfoldable pub Sums : Watch → Words → Type 0
  Sums w P = P.top ≡ sum (λ r. handed (w.mem.drawn r)) G.p

module _ {G : Grid} {old_link : ℕ → Link} {W : World} (I : Inv G old_link W) {P : Words} {own : ℕ → Link} (Y : Layout G W P own) (T : Sums G W.w P)
    (q : ℕ) (o : Op) (i : ℕ) where
  sums_marking : (k : Marking) → W.w.lane q ≡ busy o i (marking k) → Sums G (stepped W.w q o i (mark_turn G W.w.mem q o i k)) (words_marked G P q i k)
  unfolding Sums
  sums_marking (Marking.draw s S n) e =
      omega (arith, T, sum_upd (λ x. handed x) W.w.mem.drawn q (suc (G.shape.seg n)) G.p (busy_ok I q e).proc, power, ap (λ (x : ℕ). handed x) st)
    where
      st : G.shape.seg n ≡ W.w.mem.drawn q
      st = Y.stages q o i (marking (Marking.draw s S n)) e

      power : handed (suc (G.shape.seg n)) ≡ handed (G.shape.seg n) + 2 ^ suc (G.shape.seg n)
      power = omega (arith, pow_pos (G.shape.seg n))
  sums_marking (Marking.enter s S n) e = T
  sums_marking (Marking.tombstone S n) e = T
  sums_marking (Marking.mark S n) e = T
  sums_marking (Marking.force S n) e = T
  sums_marking (Marking.swap S n) e = by (same_link (W.w.mem.link i) S.at)
    where
      by : (z : Dec (W.w.mem.link i ≡ S.at))
          → Sums G (stepped W.w q o i (pick z (turn_to (set_link i (mk q n)) (passed o)) (turn_to keep (go (marking (Marking.take_back n)))))) P
      by (yes k) = T
      by (no k) = T
  sums_marking (Marking.take_back n) e = T

  pub sums_step : (g : Stage) → W.w.lane q ≡ busy o i g → Sums G (stepped W.w q o i (take_turn G W.w.mem q o i g)) (words_after G P q i g)
  unfolding Sums
  sums_step Stage.store e = T
  sums_step Stage.check_link e = T
  sums_step (Stage.check_marks S) e = T
  sums_step (Stage.check_directory S) e = T
  sums_step (Stage.check_mark S) e = T
  sums_step Stage.fetch e = T
  sums_step (marking k) e = sums_marking k e
