-- The layout beside a step: what the other lanes see of it, and that their stages stay as they should.
-- Assumes nothing.
use Rattle.std.specs.Prelude.{◌≡◌, ◌≢◌, ℕ, ◌<◌}
use Rattle.std.proofs.Common.{sym, ap, ◌∙◌, subst, arith}
use Rattle.std.proofs.Math.Decide.{ℕ_discrete}
use Rattle.theory.specs.Base.{upd, upd_same, upd_other}
use Rattle.theory.specs.Array.{Op}
use Rattle.theory.specs.Machine.{Grid, Link, Marking, Stage, marking, busy, Mem, Next, go, end, next_lane}
use Rattle.theory.specs.Words.{Words}
use Rattle.theory.specs.Standing.{ready_at, ready}
use Rattle.theory.specs.World.{World}
use Rattle.theory.specs.Inv.{BusyOk, Inv}
use Rattle.theory.specs.Layout.{Owns, LayoutIn, LayoutAt, Layout}

module _ {G : Grid} {old_link : ℕ → Link} {W : World} (I : Inv G old_link W) {P : Words} {own : ℕ → Link} (Y : Layout G W P own) (q : ℕ) (o : Op) (i : ℕ) where
  abbrev M : Mem
  M = W.w.mem

  -- the ready segments stay where the own lane's do
  pub ready_same : (g : Stage) → W.w.lane q ≡ busy o i g → (nx : Next) (drawn : ℕ → ℕ) → ((r : ℕ) → r ≢ q → drawn r ≡ M.drawn r)
      → ready (next_lane o i nx) (drawn q) ≡ ready_at g (M.drawn q)
      → (r : ℕ) → ready (upd W.w.lane q (next_lane o i nx) r) (drawn r) ≡ ready (W.w.lane r) (M.drawn r)
  ready_same g e nx drawn hd hm r = by (ℕ_discrete r q)
    where
      by : Dec (r ≡ q) → ready (upd W.w.lane q (next_lane o i nx) r) (drawn r) ≡ ready (W.w.lane r) (M.drawn r)
      by (yes h) = rw h (rw (upd_same W.w.lane q (next_lane o i nx), e) hm)
      by (no h) = rw (upd_other W.w.lane q (next_lane o i nx) r h, hd r h)

  -- what another lane sees of the step
  pub record Aside (drawn : ℕ → ℕ) (P' : Words) (own' : ℕ → Link) (r : ℕ) : Type 0 where
    pub same_drawn : drawn r ≡ M.drawn r
    pub same_held : P'.held r ≡ P.held r
    pub same_start : (k n : ℕ) → n < W.used k → P'.directory k (G.shape.seg n) ≡ P.directory k (G.shape.seg n)
    pub owns : (t start : ℕ) → Owns G own P.top r t start → Owns G own' P'.top r t start

  beside_marking : (drawn : ℕ → ℕ) (P' : Words) (own' : ℕ → Link) (r : ℕ) → Aside drawn P' own' r → (k : Marking)
      → LayoutIn G M.drawn P own r k → LayoutIn G drawn P' own' r k
  beside_marking drawn P' own' r B (Marking.draw s S n) h = h ∙ sym B.same_drawn
  beside_marking drawn P' own' r B (Marking.enter s S n) h = (B.same_drawn ∙ h.0, rw B.same_held (B.owns (G.shape.seg n) (P.held r) h.1))
  beside_marking drawn P' own' r B (Marking.tombstone S n) h = rw B.same_drawn h
  beside_marking drawn P' own' r B (Marking.mark S n) h = rw B.same_drawn h
  beside_marking drawn P' own' r B (Marking.force S n) h = tt
  beside_marking drawn P' own' r B (Marking.swap S n) h = tt
  beside_marking drawn P' own' r B (Marking.take_back n) h = tt

  beside : (drawn : ℕ → ℕ) (P' : Words) (own' : ℕ → Link) (r : ℕ) → Aside drawn P' own' r → (o₁ : Op) (i₁ : ℕ) (g₁ : Stage)
      → W.w.lane r ≡ busy o₁ i₁ g₁ → LayoutAt G M.drawn P own r g₁ → LayoutAt G drawn P' own' r g₁
  beside drawn P' own' r B o₁ i₁ Stage.store k h = tt
  beside drawn P' own' r B o₁ i₁ Stage.check_link k h = tt
  beside drawn P' own' r B o₁ i₁ (Stage.check_marks S) k h = tt
  beside drawn P' own' r B o₁ i₁ (Stage.check_directory S) k h = tt
  beside drawn P' own' r B o₁ i₁ (Stage.check_mark S) k h = let b : BusyOk G old_link W r o₁ i₁ (Stage.check_mark S) = rw k at (I.lanes r) in
      B.same_held ∙ h ∙ sym (B.same_start S.at.proc S.at.place b.at.2)
  beside drawn P' own' r B o₁ i₁ Stage.fetch k h = tt
  beside drawn P' own' r B o₁ i₁ (marking m) k h = beside_marking drawn P' own' r B m h

  -- what the own next stage has to meet
  abbrev pub NextAt : (ℕ → ℕ) → Words → (ℕ → Link) → Next → Type 0
  NextAt drawn P' own' (go g) = LayoutAt G drawn P' own' q g
  NextAt drawn P' own' (end a) = Unit {0}

  pub stages_of : (nx : Next) (drawn : ℕ → ℕ) (P' : Words) (own' : ℕ → Link) → ((r : ℕ) → r ≢ q → Aside drawn P' own' r) → NextAt drawn P' own' nx
      → (r : ℕ) (o₁ : Op) (i₁ : ℕ) (g₁ : Stage) → upd W.w.lane q (next_lane o i nx) r ≡ busy o₁ i₁ g₁ → LayoutAt G drawn P' own' r g₁
  stages_of nx drawn P' own' ho hm r o₁ i₁ g₁ k = by (ℕ_discrete r q)
    where
      which : (n : Next) → NextAt drawn P' own' n → next_lane o i n ≡ busy o₁ i₁ g₁ → LayoutAt G drawn P' own' q g₁
      which (go g₂) x h = let z : g₂ ≡ g₁ = cc in subst (λ (y : Stage). LayoutAt G drawn P' own' q y) z x
      which (end a) x h = absurd (let y : ◌≡◌ {A = ℕ} 0 1 = cc in omega arith)

      by : Dec (r ≡ q) → LayoutAt G drawn P' own' r g₁
      by (yes h) =
          subst (λ (y : ℕ). LayoutAt G drawn P' own' y g₁) (sym h)
          (which nx hm (sym (upd_same W.w.lane q (next_lane o i nx)) ∙ ap (upd W.w.lane q (next_lane o i nx)) (sym h) ∙ k))
      by (no h) = let k' : W.w.lane r ≡ busy o₁ i₁ g₁ = sym (upd_other W.w.lane q (next_lane o i nx) r h) ∙ k in
          beside drawn P' own' r (ho r h) o₁ i₁ g₁ k' (Y.stages r o₁ i₁ g₁ k')
