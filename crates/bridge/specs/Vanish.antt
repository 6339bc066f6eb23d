-- Proof: in one order no reading vanishes.
-- Assumes nothing.
use Rattle.std.specs.Prelude.{ℕ, ◌≡◌, refl, ◌⊎◌, ◌≢◌, Bool, true, false}
use Rattle.std.proofs.Common.{sym, ap, ◌∙◌, subst, inl, inr, ⊎_elim}
use mathlib.Core.List.Memᴰ
use mathlib.Core.List.{List, [], ◌∷◌, ◌++◌, Memᴰ}
use Rattle.std.proofs.Math.Decide.{ℕ_discrete}
use Rattle.theory.specs.Array.{Op, read, asked, write, got, told, value_by, written_by, value, written, answer}
use Rattle.theory.specs.Order.{Done, Entry, deeds, Fits, Orderly, Is, Before, value_in, written_in}
use Rattle.theory.specs.OrderLaws.{no_false, value_unwritten}
use Rattle.theory.specs.Interface as Theory
use Rattle.demands.specs.Book.{busy, Book}
use Rattle.demands.specs.Demand2.{Unfinished, OneOrder}
use Rattle.demands.specs.Vanishing.{Shows, Wrote, once, still, Knows, NothingVanishes}

-- ---- what stands behind an entry

pub orderly_at : (f : ℕ → ℕ) (newer older : List Entry) (e : Entry) → Orderly f (newer ++ (e ∷ older)) → Fits f e older × Orderly f older
orderly_at f [] older e h = h
orderly_at f (x ∷ newer) older e h = orderly_at f newer older e h.1

stays : (x : Entry) (es : List Entry) (i : ℕ) → written_in es i ≡ true → written_in (x ∷ es) i ≡ true
unfolding written deeds
stays x es i h = by x.op
  where
    at : {P : Type 0} (d : Dec P) → Theory.pick d true (written_in es i) ≡ true
    at (yes k) = refl
    at (no k) = h

    by : (o : Op) → written_by o x.cell i (written_in es i) ≡ true
    by read = h
    by asked = h
    by (write v) = at (ℕ_discrete x.cell i)

-- an entry whose answer shows its cell written has a write of the cell behind it, or is one
pub shown : (f : ℕ → ℕ) (es : List Entry) (i : ℕ) → Orderly f es → (e : Entry) → Memᴰ e es → e.cell ≡ i → Shows (f i) e.ans → written_in es i ≡ true
unfolding written deeds
shown f [] i h e m c s = elim m [ ]
shown f (x ∷ es) i h e m c s = by (Memᴰ.cases_cons m) (shown f es i h.1 e)
  where
    known : (t : Bool) → written_in es i ≡ t → value_in f es i ≢ f i → written_in es i ≡ true
    known true k ne = k
    known false k ne = absurd (ne (value_unwritten f es i k))

    at : {P : Type 0} (d : Dec P) → P → Theory.pick d true (written_in es i) ≡ true
    at (yes k) p = refl
    at (no k) p = absurd (k p)

    own : (o : Op) → x.cell ≡ i → x.ans ≡ answer f (deeds es) o x.cell → Shows (f i) x.ans → written_by o x.cell i (written_in es i) ≡ true
    own read k r s =
        ⊎_elim (λ (n : value_in f es i ≢ f i). known (written_in es i) refl n) (λ (w : written_in es i ≡ true). w) (rw k at (subst (Shows (f i)) r s))
    own asked k r s = rw k at (subst (Shows (f i)) r s)
    own (write v) k r s = at (ℕ_discrete x.cell i) k

    by : (e ≡ x) ⊎ Memᴰ e es → (Memᴰ e es → e.cell ≡ i → Shows (f i) e.ans → written_in es i ≡ true) → written_in (x ∷ es) i ≡ true
    by (inl p) ih = own x.op (sym (ap (λ (z : Entry). z.cell) p) ∙ c) h.0.right (subst (λ (z : Entry). Shows (f i) z.ans) p s)
    by (inr p) ih = stays x es i (ih p c s)

-- what a written cell holds was written by an entry
record Source (f : ℕ → ℕ) (es : List Entry) (i : ℕ) : Type 0 where
  entry : Entry
  there : Memᴰ entry es
  op : entry.op ≡ write (value_in f es i)
  cell : entry.cell ≡ i

source : (f : ℕ → ℕ) (es : List Entry) (i : ℕ) → written_in es i ≡ true → Source f es i
unfolding value written deeds
source f [] i h = absurd (no_false (sym h))
source f (x ∷ es) i h = by x.op refl h (source f es i)
  where
    older : {y : ℕ} → value_in f es i ≡ y → Source f es i → (e : Entry) × Memᴰ e (x ∷ es) × (e.op ≡ write y) × (e.cell ≡ i)
    older k s = (s.entry, Memᴰ.tail s.there, s.op ∙ ap write k, s.cell)

    found : {y : ℕ} → value_in f (x ∷ es) i ≡ y → (e : Entry) × Memᴰ e (x ∷ es) × (e.op ≡ write y) × (e.cell ≡ i) → Source f (x ∷ es) i
    found k s = record { entry = s.0; there = s.1; op = s.2 ∙ ap write (sym k); cell = s.3 }

    by : (o : Op) → x.op ≡ o → written_by o x.cell i (written_in es i) ≡ true → (written_in es i ≡ true → Source f es i) → Source f (x ∷ es) i
    by read k w ih = found (ap (λ (o : Op). value_by o x.cell i (value_in f es i)) k) (older refl (ih w))
    by asked k w ih = found (ap (λ (o : Op). value_by o x.cell i (value_in f es i)) k) (older refl (ih w))
    by (write v) k w ih = at (ℕ_discrete x.cell i) refl w
      where
        val : (d : Dec (x.cell ≡ i)) → ℕ_discrete x.cell i ≡ d → value_in f (x ∷ es) i ≡ Theory.pick d v (value_in f es i)
        val d z = ap (λ (o : Op). value_by o x.cell i (value_in f es i)) k ∙ ap (λ (d : Dec (x.cell ≡ i)). Theory.pick d v (value_in f es i)) z

        at : (d : Dec (x.cell ≡ i)) → ℕ_discrete x.cell i ≡ d → Theory.pick d true (written_in es i) ≡ true → Source f (x ∷ es) i
        at (yes c) z w = found (val (yes c) z) (x, Memᴰ.head refl, k, c)
        at (no c) z w = found (val (no c) z) (older refl (ih w))

-- THE THEOREM: an answer to an operation that began after one that showed the cell written knows that it is written.
pub nothing_vanishes : (f : ℕ → ℕ) (b : Book) → OneOrder f b → NothingVanishes f b
nothing_vanishes f b O d e md me before same shows = subst (Knows b e.cell) E.2.ans (by E.0.op at.0.right)
  where
    D : (x : Entry) × Memᴰ x O.order × Is x d
    D = O.complete d md

    E : (x : Entry) × Memᴰ x O.order × Is x e
    E = O.complete e me

    B : Before D.0 E.0 O.order
    B = Theory.real_time_order f O.order O.orderly D.0 E.0 D.1 E.1 d e D.2 E.2 before

    at : Fits f E.0 B.older × Orderly f B.older
    at = orderly_at f B.newer B.older E.0 (subst (Orderly f) B.split O.orderly)

    is_written : written_in B.older e.cell ≡ true
    is_written = shown f B.older e.cell at.1 D.0 B.there (D.2.cell ∙ same) (subst (Shows (f e.cell)) (sym D.2.ans) shows)

    S : Source f B.older e.cell
    S = source f B.older e.cell is_written

    kept : Memᴰ S.entry O.order
    kept = subst (Memᴰ S.entry) (sym B.split) (Memᴰ.append_right B.newer (Memᴰ.tail S.there))

    known : ((x : Done) × Memᴰ x b.ended × Is S.entry x) ⊎ Unfinished b S.entry → Wrote b e.cell (value_in f B.older e.cell)
    known (inl x) = once x.0 x.1 (sym x.2.op ∙ S.op) (sym x.2.cell ∙ S.cell)
    known (inr u) = let taken = u.under_way.taken in
        still S.entry.who S.entry.began taken
        (u.under_way.doing ∙ ap (λ (o : Op). busy S.entry.began o S.entry.cell taken) S.op
        ∙ ap (λ (c : ℕ). busy S.entry.began (write (value_in f B.older e.cell)) c taken) S.cell)

    by : (o : Op) → E.0.ans ≡ answer f (deeds B.older) o E.0.cell → Knows b e.cell E.0.ans
    by read r =
        subst (Knows b e.cell) (sym (r ∙ ap (λ (i : ℕ). got (value_in f B.older i) (written_in B.older i)) E.2.cell))
        (known (O.sound S.entry kept), is_written)
    by asked r = subst (Knows b e.cell) (sym (r ∙ ap (λ (i : ℕ). told (written_in B.older i)) E.2.cell)) is_written
    by (write v) r = subst (Knows b e.cell) (sym r) tt
