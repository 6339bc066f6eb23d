-- The layout: marks lie in segments drawn from one pool, found through the directory, and each word has one owner.
-- Assumes nothing.
use Rattle.std.specs.Prelude.{◌≡◌, ℕ, suc, ◌+◌, ◌^◌, ◌<◌}
use Rattle.std.proofs.Common.{sym, ap, ◌∙◌, arith}
use Rattle.theory.specs.Array.{Op}
use Rattle.theory.specs.Segments.{off_inside, off_apart}
use Rattle.theory.specs.Machine.{Grid, Link, mk, Marking, Stage, marking, busy}
use Rattle.theory.specs.Words.{Words, address}
use Rattle.theory.specs.Standing.{ready}
use Rattle.theory.specs.World.{World}

module _ (G : Grid) where
  -- the segment s at a start belongs to lane r
  abbrev pub Owns : (ℕ → Link) → ℕ → ℕ → ℕ → ℕ → Type 0
  Owns own top r s start = (k : ℕ) → k < 2 ^ suc s → (own (start + k) ≡ mk r s) × (start + k < top)

  -- what holds of the words while process q marks, and at any stage
  abbrev pub LayoutIn : (ℕ → ℕ) → Words → (ℕ → Link) → ℕ → Marking → Type 0
  LayoutIn drawn P own q (Marking.draw s S n) = G.shape.seg n ≡ drawn q
  LayoutIn drawn P own q (Marking.enter s S n) = (drawn q ≡ suc (G.shape.seg n)) × Owns own P.top q (G.shape.seg n) (P.held q)
  LayoutIn drawn P own q (Marking.tombstone S n) = G.shape.seg n < drawn q
  LayoutIn drawn P own q (Marking.mark S n) = G.shape.seg n < drawn q
  LayoutIn drawn P own q (Marking.force S n) = Unit {0}
  LayoutIn drawn P own q (Marking.swap S n) = Unit {0}
  LayoutIn drawn P own q (Marking.take_back n) = Unit {0}

  abbrev pub LayoutAt : (ℕ → ℕ) → Words → (ℕ → Link) → ℕ → Stage → Type 0
  LayoutAt drawn P own q Stage.store = Unit {0}
  LayoutAt drawn P own q Stage.check_link = Unit {0}
  LayoutAt drawn P own q (Stage.check_marks S) = Unit {0}
  LayoutAt drawn P own q (Stage.check_directory S) = Unit {0}
  LayoutAt drawn P own q (Stage.check_mark S) = P.held q ≡ P.directory S.at.proc (G.shape.seg S.at.place)
  LayoutAt drawn P own q Stage.fetch = Unit {0}
  LayoutAt drawn P own q (marking k) = LayoutIn drawn P own q k

  pub record Layout (W : World) (P : Words) (own : ℕ → Link) : Type 0 where
    pub marks : (r n : ℕ) → r < G.p → n < W.used r → W.w.mem.marks r n ≡ P.pool (address G P r n)
    pub cover : (r n : ℕ) → n < W.used r → G.shape.seg n < ready (W.w.lane r) (W.w.mem.drawn r)
    pub owned : (r s : ℕ) → r < G.p → s < ready (W.w.lane r) (W.w.mem.drawn r) → Owns own P.top r s (P.directory r s)
    pub stages : (r : ℕ) (o : Op) (i : ℕ) (g : Stage) → W.w.lane r ≡ busy o i g → LayoutAt W.w.mem.drawn P own r g

-- two places at one address are one place
module _ (G : Grid) (P : Words) (own : ℕ → Link) where
  pub same_address : (q n r k : ℕ) → Owns G own P.top q (G.shape.seg n) (P.directory q (G.shape.seg n))
      → Owns G own P.top r (G.shape.seg k) (P.directory r (G.shape.seg k)) → address G P q n ≡ address G P r k → (q ≡ r) × (n ≡ k)
  same_address q n r k a b h = (hq, off_apart G.shape n k hs offs)
    where
      one : mk q (G.shape.seg n) ≡ mk r (G.shape.seg k)
      one = sym (a (G.shape.off n) (off_inside G.shape n)).0 ∙ ap own h ∙ (b (G.shape.off k) (off_inside G.shape k)).0

      hq : q ≡ r
      hq = ap (λ (y : Link). y.proc) one

      hs : G.shape.seg n ≡ G.shape.seg k
      hs = ap (λ (y : Link). y.place) one

      offs : G.shape.off n ≡ G.shape.off k
      offs = let z : P.directory q (G.shape.seg n) ≡ P.directory r (G.shape.seg k) = cc (hq, hs) in omega arith
