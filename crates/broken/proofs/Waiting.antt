-- Why unfinished reads need a place: with ended operations and unfinished writes alone no order grows, not even on our grid.
-- Assumes nothing.
use Rattle.std.specs.Prelude.{ℕ, ◌≡◌, refl, ◌⊎◌, ◌≢◌, true, false}
use Rattle.std.proofs.Common.{sym, ap, ◌∙◌, subst, inl, inr, arith}
use mathlib.Core.List.Memᴰ
use mathlib.Core.List.{List, [], ◌∷◌, ◌++◌, Memᴰ}
use Rattle.std.proofs.Math.Decide.{ℕ_discrete}
use Rattle.numbers.specs.Numbers.{fill_of, log_in, log2, segment_of, offset_of, size_of}
use Rattle.logic.specs.Below.{below}
use Rattle.acts.specs.Calls.{opening_of, begun_of, verdict_of}
use Rattle.acts.specs.Worlds.{grid}
use Rattle.theory.specs.Array.{Op, read, got, done, Writing, answer}
use Rattle.theory.specs.Order.{Done, Entry, deeds, Orderly, Is, Before, value_in, written_in}
use Rattle.theory.specs.OrderLaws.{no_false}
use Rattle.theory.specs.Interface as Theory
use Rattle.theory.specs.Interface.{upd}
use Rattle.demands.specs.Kinds.{writing}
use Rattle.demands.specs.Book.{Book, run}
use Rattle.demands.specs.Demand2.{Unfinished}
use Rattle.demands.specs.Vanishing.{Shows}
use Rattle.demands.specs.Growing.{GrowingWith, book_of}
use Rattle.bridge.specs.Vanish.{orderly_at, shown}
use Rattle.broken.specs.Lost.{terms, lent, reads}
use Rattle.broken.specs.Waiting.{calls, more, book, wrote, looked}

-- A read that ends after a write of its cell has ended, and has no place before that, cannot say that the cell is not written.
late : {C : Type 0} {f : ℕ → ℕ} {book : List C → Book} (G : GrowingWith Unfinished f book) (calls more : List C) (w r : Done) (x : ℕ)
    → Memᴰ w (book calls).ended → Memᴰ r (book (calls ++ more)).ended
    → ((d : Done) → Memᴰ d (book calls).ended → d.began ≢ r.began)
    → w.ans ≡ done → w.cell ≡ r.cell → r.op ≡ read → r.ans ≡ got x false → ⊥
late {f = f} {book} G calls more w r x mw mr new wrote same reads says = by (Theory.new_after_old (G.grows calls more) W.0 R.0 W.1 R.1)
  where
    W : (e : Entry) × Memᴰ e (G.orders calls).order × Is e w
    W = (G.orders calls).complete w mw

    R : (e : Entry) × Memᴰ e (G.orders (calls ++ more)).order × Is e r
    R = (G.orders (calls ++ more)).complete r mr

    not_yet : ((d : Done) × Memᴰ d (book calls).ended × Is R.0 d) ⊎ Unfinished (book calls) R.0 → ⊥
    not_yet (inl d) = new d.0 d.1 (sym d.2.began ∙ R.2.began)
    not_yet (inr u) = subst Writing (R.2.op ∙ reads) u.writes

    by : Before W.0 R.0 (G.orders (calls ++ more)).order ⊎ Memᴰ R.0 (G.orders calls).order → ⊥
    by (inr m) = not_yet ((G.orders calls).sound R.0 m)
    by (inl B) =
        let at = orderly_at f B.newer B.older R.0 (subst (Orderly f) B.split (G.orders (calls ++ more)).orderly) in
        let t : written_in B.older R.0.cell ≡ true =
        shown f B.older R.0.cell at.1 W.0 B.there (W.2.cell ∙ same ∙ sym R.2.cell)
        (subst (Shows (f R.0.cell)) (sym (W.2.ans ∙ wrote)) tt) in
        let a : R.0.ans ≡ answer f (deeds B.older) read R.0.cell =
        at.0.right ∙ ap (λ (o : Op). answer f (deeds B.older) o R.0.cell) (R.2.op ∙ reads) in
        let g : got x false ≡ got (value_in f B.older R.0.cell) (written_in B.older R.0.cell) = sym says ∙ sym R.2.ans ∙ a in
        let k : false ≡ written_in B.older R.0.cell = cc in
        no_false (sym (k ∙ t))

ended : (book calls).ended ≡ wrote ∷ []
unfolding run upd ℕ_discrete below opening_of begun_of verdict_of log_in log2 segment_of offset_of size_of
ended = refl

ended_more : (book (calls ++ more)).ended ≡ looked ∷ wrote ∷ []
unfolding run upd ℕ_discrete below opening_of begun_of verdict_of log_in log2 segment_of offset_of size_of
ended_more = refl

pub a_read_needs_its_place : GrowingWith Unfinished (fill_of 7 0) (book_of writing grid (terms 2 1) (lent 2 1 (0 ∷ []))) → ⊥
a_read_needs_its_place G =
    late G calls more wrote looked 7 (subst (Memᴰ wrote) (sym ended) (Memᴰ.head refl))
    (subst (Memᴰ looked) (sym ended_more) (Memᴰ.head refl)) new refl refl refl refl
  where
    only : (d : Done) → (d ≡ wrote) ⊎ Memᴰ d [] → d.began ≢ 0
    only d (inl e) k = let y : ◌≡◌ {A = ℕ} 2 0 = sym (ap (λ (x : Done). x.began) e) ∙ k in omega arith
    only d (inr m) k = elim m [ ]

    new : (d : Done) → Memᴰ d (book calls).ended → d.began ≢ looked.began
    new d m = only d (Memᴰ.cases_cons (subst (Memᴰ d) ended m))
