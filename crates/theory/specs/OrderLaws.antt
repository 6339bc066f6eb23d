-- Laws of the array along an order: what one more operation changes, what holds of an orderly list, and how orders grow.
-- Assumes nothing.
use Rattle.std.specs.Prelude.{◌≡◌, refl, ◌⊎◌, ◌≢◌, Bool, true, false, ℕ, ◌<◌}
use Rattle.std.proofs.Common.{sym, ap, ◌∙◌, subst, inl, inr, ⊎_elim, arith}
use mathlib.Core.List.Memᴰ
use mathlib.Core.List.{List, [], ◌∷◌, ◌++◌, append_assoc, Memᴰ}
use Rattle.std.proofs.Math.Decide.{ℕ_discrete}
use Rattle.theory.specs.Base.{pick}
use Rattle.theory.specs.Array.{Op, read, asked, write, value_by, written_by, value, written}
use Rattle.theory.specs.Order.{Done, Entry, deeds, Orderly, Is, OrderOf, Grown, value_in, written_in}

pub no_false : {A : Type 0} → true ≡ false → A
no_false k = absurd (let y : ◌≡◌ {A = ℕ} 0 1 = cc in omega arith)

-- a cell that no write precedes holds what it was filled with
at_cell : {P : Type 0} (v x y : ℕ) (b : Bool) → (b ≡ false → x ≡ y) → (d : Dec P) → pick d true b ≡ false → pick d v x ≡ y
at_cell v x y b ih (yes k) z = no_false z
at_cell v x y b ih (no k) z = ih z

unwritten_by : (o : Op) (c i x y : ℕ) (b : Bool) → (b ≡ false → x ≡ y) → written_by o c i b ≡ false → value_by o c i x ≡ y
unwritten_by read c i x y b ih h = ih h
unwritten_by asked c i x y b ih h = ih h
unwritten_by (write v) c i x y b ih h = at_cell v x y b ih (ℕ_discrete c i) h

pub value_unwritten : (f : ℕ → ℕ) (es : List Entry) (i : ℕ) → written_in es i ≡ false → value_in f es i ≡ f i
unfolding value written deeds
value_unwritten f [] i h = refl
value_unwritten f (e ∷ es) i h = unwritten_by e.op e.cell i (value_in f es i) (f i) (written_in es i) (value_unwritten f es i) h

-- an operation stands once
pub unique : (f : ℕ → ℕ) (es : List Entry) → Orderly f es → (d e : Entry) → Memᴰ d es → Memᴰ e es → d.began ≡ e.began → d ≡ e
unique f [] h d e (md) me k = elim md [ ]
unique f (x ∷ es) h d e md me k = by (Memᴰ.cases_cons md) (Memᴰ.cases_cons me) (unique f es h.1 d e)
  where
    by : (d ≡ x) ⊎ Memᴰ d es → (e ≡ x) ⊎ Memᴰ e es → (Memᴰ d es → Memᴰ e es → d.began ≡ e.began → d ≡ e) → d ≡ e
    by (inl p) (inl q) ih = p ∙ sym q
    by (inl p) (inr q) ih = absurd (h.0.once e q (sym k ∙ ap (λ (z : Entry). z.began) p))
    by (inr p) (inl q) ih = absurd (h.0.once d p (k ∙ ap (λ (z : Entry). z.began) q))
    by (inr p) (inr q) ih = ih p q k

-- an entry takes its place after its operation's beginning
pub began_before : (f : ℕ → ℕ) (es : List Entry) → Orderly f es → (z : Entry) → Memᴰ z es → z.began < z.at
began_before f [] h z m = elim m [ ]
began_before f (x ∷ es) h z m = ⊎_elim (λ (k : z ≡ x). rw k h.0.after) (λ (k : Memᴰ z es). began_before f es h.1 z k) (Memᴰ.cases_cons m)

-- the same order, where what stands in it besides ended operations has another property too
abbrev pub order_as : {f : ℕ → ℕ} {ended : List Done} {P Q : Entry → Type 0} (O : OrderOf f ended P)
    → ((e : Entry) → Memᴰ e O.order → P e → Q e) → OrderOf f ended Q
order_as {ended = ended} {P} O h = record {
  order = O.order;
  orderly = O.orderly;
  complete = O.complete;
  sound = λ e m. ⊎_elim (λ (x : (d : Done) × Memᴰ d ended × Is e d). inl x) (λ (x : P e). inr (h e m x)) (O.sound e m);
}

-- an order grows by nothing, and step by step; what stands in it stays
pub grown_same : (es : List Entry) → Grown es es
grown_same es = record { newer = []; split = refl }

pub grown_on : {a b c : List Entry} → Grown a b → Grown b c → Grown a c
grown_on {a} g h = record {
  newer = h.newer ++ g.newer;
  split = h.split ∙ ap (λ (es : List Entry). h.newer ++ es) g.split ∙ sym (append_assoc h.newer g.newer a);
}

pub grown_keeps : {a b : List Entry} → Grown a b → (e : Entry) → Memᴰ e a → Memᴰ e b
grown_keeps g e m = subst (Memᴰ e) (sym g.split) (Memᴰ.append_right g.newer m)

-- the array after one more write
pub value_here : (f : ℕ → ℕ) (x : Entry) (es : List Entry) (v i : ℕ) → x.op ≡ write v → x.cell ≡ i → value_in f (x ∷ es) i ≡ v
unfolding value deeds
value_here f x es v i ho hc = rw (ho, hc) (by (ℕ_discrete i i))
  where
    by : (d : Dec (i ≡ i)) → pick d v (value_in f es i) ≡ v
    by (yes k) = refl
    by (no k) = absurd (k refl)

pub written_here : (x : Entry) (es : List Entry) (v i : ℕ) → x.op ≡ write v → x.cell ≡ i → written_in (x ∷ es) i ≡ true
unfolding written deeds
written_here x es v i ho hc = rw (ho, hc) (by (ℕ_discrete i i))
  where
    by : (d : Dec (i ≡ i)) → pick d true (written_in es i) ≡ true
    by (yes k) = refl
    by (no k) = absurd (k refl)

aside : {X : Type 0} {c j : ℕ} (x y : X) → j ≢ c → (d : Dec (c ≡ j)) → pick d x y ≡ y
aside x y ne (yes k) = absurd (ne (sym k))
aside x y ne (no k) = refl

away_value : (o : Op) (c j y : ℕ) → j ≢ c → value_by o c j y ≡ y
away_value read c j y ne = refl
away_value asked c j y ne = refl
away_value (write v) c j y ne = aside v y ne (ℕ_discrete c j)

away_written : (o : Op) (c j : ℕ) (y : Bool) → j ≢ c → written_by o c j y ≡ y
away_written read c j y ne = refl
away_written asked c j y ne = refl
away_written (write v) c j y ne = aside true y ne (ℕ_discrete c j)

pub value_away : (f : ℕ → ℕ) (x : Entry) (es : List Entry) (j : ℕ) → j ≢ x.cell → value_in f (x ∷ es) j ≡ value_in f es j
unfolding value deeds
value_away f x es j ne = away_value x.op x.cell j (value_in f es j) ne

pub written_away : (x : Entry) (es : List Entry) (j : ℕ) → j ≢ x.cell → written_in (x ∷ es) j ≡ written_in es j
unfolding written deeds
written_away x es j ne = away_written x.op x.cell j (written_in es j) ne
