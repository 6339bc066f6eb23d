-- What each kind of step does to the layout.
-- Assumes nothing.
use Rattle.std.specs.Prelude.{◌≡◌, refl, ◌≢◌, Bool, List, ℕ, suc, ◌+◌, ◌-◌, ◌^◌, ◌≤◌, ◌<◌, max}
use Rattle.std.proofs.Common.{sym, ◌∙◌, arith}
use Rattle.std.proofs.Math.Decide.{ℕ_discrete, dec_lt}
use Rattle.theory.specs.Base.{pick, upd, upd_same, upd_other}
use Rattle.theory.specs.Array.{Op}
use Rattle.theory.specs.Order.{Entry}
use Rattle.theory.specs.Machine.{Grid, Link, mk, Seen, Marking, Stage, marking, Lane, busy, Mem, set_drawn, set_mark, Next, go, poke, next_lane}
use Rattle.theory.specs.Words.{Words, address, after_stamp, words_after}
use Rattle.theory.specs.Standing.{ready_at, ready}
use Rattle.theory.specs.World.{World}
use Rattle.theory.specs.Inv.{Inv}
use Rattle.theory.specs.Log.{turned}
use Rattle.theory.specs.Layout.{Owns, LayoutIn, Layout, same_address}
use Rattle.theory.specs.LayoutAside
use Rattle.theory.specs.LayoutAside.{NextAt}

module _ {G : Grid} {old_link : ℕ → Link} {W : World} (I : Inv G old_link W) {P : Words} {own : ℕ → Link} (Y : Layout G W P own) (q : ℕ) (o : Op) (i : ℕ) where
  abbrev M : Mem
  M = W.w.mem

  abbrev after : Mem → Next → (ℕ → ℕ) → List Entry → World
  after M₁ nx used log = turned W q o i M₁ used nx log

  -- a step that leaves these words, but for the start that the own process holds
  lay_held : (g : Stage) → W.w.lane q ≡ busy o i g → (nx : Next) (reading : ℕ → ℕ) (link : ℕ → Link) (in_force held : ℕ → ℕ) (log : List Entry)
      → let P' : Words = record { directory = P.directory; pool = P.pool; top = P.top; held = held } in
      ((r : ℕ) → r ≢ q → held r ≡ P.held r) → ready (next_lane o i nx) (M.drawn q) ≡ ready_at g (M.drawn q) → NextAt I Y q o i M.drawn P' own nx
      → Layout G (after (record { reading = reading; link = link; in_force = in_force; drawn = M.drawn; marks = M.marks }) nx W.used log) P' own
  lay_held g e nx reading link in_force held log hh hr hm = record {
    marks = Y.marks;
    cover = λ r n h. rw (hs r) (Y.cover r n h);
    owned = λ r s hr h. Y.owned r s hr (rw (hs r) at h);
    stages =
        LayoutAside.stages_of I Y q o i nx M.drawn (record { directory = P.directory; pool = P.pool; top = P.top; held = held }) own
        (λ r ne. record { same_drawn = refl; same_held = hh r ne; same_start = λ k n h. refl; owns = λ t start h. h }) hm;
  }
    where
      hs : (r : ℕ) → ready (upd W.w.lane q (next_lane o i nx) r) (M.drawn r) ≡ ready (W.w.lane r) (M.drawn r)
      hs = LayoutAside.ready_same I Y q o i g e nx M.drawn (λ r ne. refl) hr

  pub lay_keep : (g : Stage) → W.w.lane q ≡ busy o i g → (nx : Next) (reading : ℕ → ℕ) (link : ℕ → Link) (in_force : ℕ → ℕ) (log : List Entry)
      → ready (next_lane o i nx) (M.drawn q) ≡ ready_at g (M.drawn q)
      → NextAt I Y q o i M.drawn P own nx
      → Layout G (after (record { reading = reading; link = link; in_force = in_force; drawn = M.drawn; marks = M.marks }) nx W.used log) P own
  lay_keep g e nx reading link in_force log = lay_held g e nx reading link in_force P.held log (λ r ne. refl)

  -- (c): the process holds the start that it has read
  pub lay_directory : (S : Seen) → W.w.lane q ≡ busy o i (Stage.check_directory S) → (log : List Entry)
      → Layout G (after M (go (Stage.check_mark S)) W.used log) (words_after G P q i (Stage.check_directory S)) own
  lay_directory S e log = let x = P.directory S.at.proc (G.shape.seg S.at.place) in
      lay_held (Stage.check_directory S) e (go (Stage.check_mark S)) M.reading M.link M.in_force (upd P.held q x) log
      (λ r ne. upd_other P.held q x r ne) refl (upd_same P.held q x)

  -- the draw: the words from the pool's top on are the lane's
  abbrev pub given : (ℕ → Link) → ℕ → ℕ → Link
  given own n x = pick (dec_lt x P.top) (own x) (mk q (G.shape.seg n))

  given_old : (n x : ℕ) → x < P.top → given own n x ≡ own x
  given_old n x h = by (dec_lt x P.top)
    where
      by : (d : Dec (x < P.top)) → pick d (own x) (mk q (G.shape.seg n)) ≡ own x
      by (yes k) = refl
      by (no k) = absurd (k h)

  given_new : (n x : ℕ) → P.top ≤ x → given own n x ≡ mk q (G.shape.seg n)
  given_new n x h = by (dec_lt x P.top)
    where
      by : (d : Dec (x < P.top)) → pick d (own x) (mk q (G.shape.seg n)) ≡ mk q (G.shape.seg n)
      by (yes k) = absurd (let y : ⊥ = omega arith in y)
      by (no k) = refl

  pub lay_draw : (s : Bool) (S : Seen) (n : ℕ) → W.w.lane q ≡ busy o i (marking (Marking.draw s S n)) → (log : List Entry)
      → Layout G (after (poke M q (set_drawn (suc (G.shape.seg n)))) (go (marking (Marking.enter s S n))) W.used log)
      (words_after G P q i (marking (Marking.draw s S n))) (given own n)
  lay_draw s S n e log = record {
    marks = Y.marks;
    cover = λ r k h. rw (hs r) (Y.cover r k h);
    owned = λ r s hr h. keep_own r s _ (Y.owned r s hr (rw (hs r) at h));
    stages = LayoutAside.stages_of I Y q o i (go (marking (Marking.enter s S n))) drawn' P' (given own n)
        (λ r ne. record {
          same_drawn = upd_other M.drawn q (suc (G.shape.seg n)) r ne;
          same_held = upd_other P.held q P.top r ne;
          same_start = λ k n h. refl;
          owns = λ t start h. keep_own r t start h;
        })
        (upd_same M.drawn q (suc (G.shape.seg n)), rw (upd_same P.held q P.top) (λ j hj. (given_new n (P.top + j) (omega arith), omega arith)));
  }
    where
      P' : Words
      P' = words_after G P q i (marking (Marking.draw s S n))

      drawn' : ℕ → ℕ
      drawn' = upd M.drawn q (suc (G.shape.seg n))

      hs : (r : ℕ) → ready (upd W.w.lane q (busy o i (marking (Marking.enter s S n))) r) (drawn' r) ≡ ready (W.w.lane r) (M.drawn r)
      hs =
          LayoutAside.ready_same I Y q o i (marking (Marking.draw s S n)) e (go (marking (Marking.enter s S n))) drawn'
          (λ r ne. upd_other M.drawn q (suc (G.shape.seg n)) r ne)
          (omega (arith, upd_same M.drawn q (suc (G.shape.seg n)), Y.stages q o i (marking (Marking.draw s S n)) e))

      keep_own : (r s start : ℕ) → Owns G own P.top r s start → Owns G (given own n) (P.top + 2 ^ suc (G.shape.seg n)) r s start
      keep_own r s start h k hk = (given_old n (start + k) (h k hk).1 ∙ (h k hk).0, omega (arith, (h k hk).1))

  -- the entry: the start goes into the directory
  pub lay_enter : (s : Bool) (S : Seen) (n : ℕ) → W.w.lane q ≡ busy o i (marking (Marking.enter s S n)) → (k' : Marking)
      → ready_at (marking k') (M.drawn q) ≡ M.drawn q → (log : List Entry)
      → LayoutIn G M.drawn (words_after G P q i (marking (Marking.enter s S n))) own q k'
      → Layout G (after M (go (marking k')) W.used log) (words_after G P q i (marking (Marking.enter s S n))) own
  lay_enter s S n e k' hr log hm = record {
    marks = marks';
    cover = cover';
    owned = owned';
    stages =
        LayoutAside.stages_of I Y q o i (go (marking k')) M.drawn P' own
        (λ r ne. record { same_drawn = refl; same_held = refl; same_start = λ k t h. dir_same k (G.shape.seg t) (elsewhere k t h); owns = λ t start h. h })
        hm;
  }
    where
      P' : Words
      P' = words_after G P q i (marking (Marking.enter s S n))

      fact : (M.drawn q ≡ suc (G.shape.seg n)) × Owns G own P.top q (G.shape.seg n) (P.held q)
      fact = Y.stages q o i (marking (Marking.enter s S n)) e

      l' : Lane
      l' = busy o i (marking k')

      dir_same : (r s : ℕ) → (r ≡ q → s ≢ G.shape.seg n) → P'.directory r s ≡ P.directory r s
      dir_same r s h = by (ℕ_discrete r q)
        where
          by : Dec (r ≡ q) → P'.directory r s ≡ P.directory r s
          by (yes z) =
              rw z
              (rw (upd_same P.directory q (upd (P.directory q) (G.shape.seg n) (P.held q)))
              (upd_other (P.directory q) (G.shape.seg n) (P.held q) s (h z)))
          by (no z) = rw (upd_other P.directory q (upd (P.directory q) (G.shape.seg n) (P.held q)) r z)

      dir_new : P'.directory q (G.shape.seg n) ≡ P.held q
      dir_new = rw (upd_same P.directory q (upd (P.directory q) (G.shape.seg n) (P.held q))) (upd_same (P.directory q) (G.shape.seg n) (P.held q))

      -- what was stored lies in other segments
      elsewhere : (r k : ℕ) → k < W.used r → r ≡ q → G.shape.seg k ≢ G.shape.seg n
      elsewhere r k h z y = let u : G.shape.seg k < M.drawn q - 1 = rw e at (rw z at (Y.cover r k h)) in
          let v : ⊥ = omega (arith, fact.0) in
          v

      marks' : (r k : ℕ) → r < G.p → k < W.used r → M.marks r k ≡ P.pool (P'.directory r (G.shape.seg k) + G.shape.off k)
      marks' r k hr h = rw (dir_same r (G.shape.seg k) (elsewhere r k h)) (Y.marks r k hr h)

      mine_lane : upd W.w.lane q l' q ≡ l'
      mine_lane = upd_same W.w.lane q l'

      cover' : (r k : ℕ) → k < W.used r → G.shape.seg k < ready (upd W.w.lane q l' r) (M.drawn r)
      cover' r k h = by (ℕ_discrete r q)
        where
          by : Dec (r ≡ q) → G.shape.seg k < ready (upd W.w.lane q l' r) (M.drawn r)
          by (yes z) = let u : G.shape.seg k < M.drawn q - 1 = rw e at (rw z at (Y.cover r k h)) in rw z (rw (mine_lane, hr) (omega arith))
          by (no z) = rw (upd_other W.w.lane q l' r z) (Y.cover r k h)

      owned' : (r s : ℕ) → r < G.p → s < ready (upd W.w.lane q l' r) (M.drawn r) → Owns G own P.top r s (P'.directory r s)
      owned' r s hp = by (ℕ_discrete r q) (ℕ_discrete s (G.shape.seg n))
        where
          by : Dec (r ≡ q) → Dec (s ≡ G.shape.seg n) → s < ready (upd W.w.lane q l' r) (M.drawn r) → Owns G own P.top r s (P'.directory r s)
          by (yes z) (yes y) h = rw (z, y) (rw dir_new fact.1)
          by (yes z) (no y) h =
              rw (dir_same r s (λ u. y))
              (Y.owned r s hp (let u : s < M.drawn q = rw hr at (rw mine_lane at (rw z at h)) in rw z (rw e (omega (arith, fact.0)))))
          by (no z) d h = rw (dir_same r s (λ u. absurd (z u))) (Y.owned r s hp (rw (upd_other W.w.lane q l' r z) at h))

  -- a mark or a tombstone is stored at place n
  pub lay_stamp : (k : Marking) → W.w.lane q ≡ busy o i (marking k) → (n c : ℕ) → q < G.p → n ≤ W.used q
      → ready_at (marking k) (M.drawn q) ≡ M.drawn q → G.shape.seg n < M.drawn q
      → (k' : Marking) → ready_at (marking k') (M.drawn q) ≡ M.drawn q → (log : List Entry)
      → LayoutIn G M.drawn (after_stamp G P q n c) own q k'
      → Layout G (after (poke M q (set_mark n c)) (go (marking k')) (upd W.used q (max (W.used q) (suc n))) log) (after_stamp G P q n c) own
  lay_stamp k e n c hq high hk hn k' hk' log hm = record {
    marks = marks';
    cover = cover';
    owned = λ r s hr h. Y.owned r s hr (rw (hs r) at h);
    stages =
        LayoutAside.stages_of I Y q o i (go (marking k')) M.drawn P' own
        (λ r ne. record { same_drawn = refl; same_held = refl; same_start = λ k t h. refl; owns = λ t start h. h }) hm;
  }
    where
      P' : Words
      P' = after_stamp G P q n c

      M' : Mem
      M' = poke M q (set_mark n c)

      used' : ℕ → ℕ
      used' = upd W.used q (max (W.used q) (suc n))

      hs : (r : ℕ) → ready (upd W.w.lane q (busy o i (marking k')) r) (M.drawn r) ≡ ready (W.w.lane r) (M.drawn r)
      hs = LayoutAside.ready_same I Y q o i (marking k) e (go (marking k')) M.drawn (λ r ne. refl) (hk' ∙ sym hk)

      -- a place other than n was stored before, and lies at another address
      elsewhere : (r k : ℕ) → r < G.p → k < W.used r → (r ≡ q → k ≢ n) → upd P.pool (address G P q n) c (address G P r k) ≡ P.pool (address G P r k)
      elsewhere r k hr h ne =
          upd_other P.pool (address G P q n) c (address G P r k)
          (λ z. let y = same_address G P own r k q n (Y.owned r (G.shape.seg k) hr (Y.cover r k h))
          (Y.owned q (G.shape.seg n) hq (rw e (omega arith))) z in ne y.0 y.1)

      before : (r k : ℕ) → k < used' r → (r ≡ q → k ≢ n) → k < W.used r
      before r k h ne = by (ℕ_discrete r q)
        where
          by : Dec (r ≡ q) → k < W.used r
          by (yes z) = let u : k < max (W.used q) (suc n) = rw (upd_same W.used q (max (W.used q) (suc n))) at (rw z at h) in
              let v : k ≢ n = ne z in rw z (omega arith)
          by (no z) = rw (upd_other W.used q (max (W.used q) (suc n)) r z) at h

      marks_same : (r k : ℕ) → (r ≡ q → k ≢ n) → M'.marks r k ≡ M.marks r k
      marks_same r k ne = by (ℕ_discrete r q)
        where
          by : Dec (r ≡ q) → M'.marks r k ≡ M.marks r k
          by (yes z) = rw z (rw (upd_same M.marks q (upd (M.marks q) n c)) (upd_other (M.marks q) n c k (ne z)))
          by (no z) = rw (upd_other M.marks q (upd (M.marks q) n c) r z)

      marks_new : M'.marks q n ≡ c
      marks_new = rw (upd_same M.marks q (upd (M.marks q) n c)) (upd_same (M.marks q) n c)

      marks' : (r k : ℕ) → r < G.p → k < used' r → M'.marks r k ≡ upd P.pool (address G P q n) c (address G P r k)
      marks' r k hr h = by (ℕ_discrete r q) (ℕ_discrete k n)
        where
          rest : (r ≡ q → k ≢ n) → M'.marks r k ≡ upd P.pool (address G P q n) c (address G P r k)
          rest ne = marks_same r k ne ∙ Y.marks r k hr (before r k h ne) ∙ sym (elsewhere r k hr (before r k h ne) ne)

          by : Dec (r ≡ q) → Dec (k ≡ n) → M'.marks r k ≡ upd P.pool (address G P q n) c (address G P r k)
          by (yes z) (yes y) = rw (z, y) (marks_new ∙ sym (upd_same P.pool (address G P q n) c))
          by (yes z) (no y) = rest (λ u. y)
          by (no z) d = rest (λ u. absurd (z u))

      cover' : (r k : ℕ) → k < used' r → G.shape.seg k < ready (upd W.w.lane q (busy o i (marking k')) r) (M.drawn r)
      cover' r k h = rw (hs r) (by (ℕ_discrete r q) (ℕ_discrete k n))
        where
          by : Dec (r ≡ q) → Dec (k ≡ n) → G.shape.seg k < ready (W.w.lane r) (M.drawn r)
          by (yes z) (yes y) = rw (z, y) (rw e (omega arith))
          by (yes z) (no y) = Y.cover r k (before r k h (λ u. y))
          by (no z) d = Y.cover r k (before r k h (λ u. absurd (z u)))
