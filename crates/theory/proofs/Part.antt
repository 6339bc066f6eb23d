-- A part of the array's cells, each under a name of its own: an order of the whole gives an order of the part.
-- Assumes nothing.
use Rattle.std.specs.Prelude.{◌≡◌, ◌⊎◌, ◌≢◌, Bool, ℕ, ◌≤◌}
use Rattle.std.proofs.Math.Path.{refl, sym, ap}
use Rattle.std.proofs.Common.{◌∙◌, subst, inl, inr}
use Rattle.std.proofs.Math.Logic.{⊎_elim}
use Rattle.std.proofs.Math.Bool.{true, false}
use mathlib.Core.List.Memᴰ
use mathlib.Core.List.{List, [], ◌∷◌, Memᴰ}
use Rattle.std.proofs.Math.Decide.{ℕ_discrete}
use Rattle.theory.specs.Base.{pick}
use Rattle.theory.specs.Array.{Op, read, asked, write, told, value_by, written_by, value, written, answer}
use Rattle.theory.specs.Order.{Entry, Done, deeds, Orderly, Is, value_in, written_in}
use Rattle.theory.specs.OrderLaws.{value_away, written_away, no_false}

-- the elements of a list that a test takes, each in a new form
module _ {A : Type 0} (takes : A → Bool) (form : A → A) where
  abbrev pub keep_if : Bool → A → List A → List A
  keep_if true x xs = form x ∷ xs
  keep_if false x xs = xs

  unfoldable pub chosen : List A → List A
  chosen [] = []
  chosen (x ∷ xs) = keep_if (takes x) x (chosen xs)

  -- z is the form of an element that the test takes
  pub record Came (xs : List A) (z : A) : Type 0 where
    pub from : A
    pub there : Memᴰ from xs
    pub taken : takes from ≡ true
    pub is : z ≡ form from

  later : (x : A) (xs : List A) (z : A) → Came xs z → Came (x ∷ xs) z
  later x xs z c = record { from = c.from; there = Memᴰ.tail c.there; taken = c.taken; is = c.is }

  pub came : (xs : List A) (z : A) → Memᴰ z (chosen xs) → Came xs z
  unfolding chosen
  came [] z m = elim m [ ]
  came (x ∷ xs) z m = by (takes x) refl (came xs z) m
    where
      by : (b : Bool) → takes x ≡ b → (Memᴰ z (chosen xs) → Came xs z) → Memᴰ z (keep_if b x (chosen xs)) → Came (x ∷ xs) z
      by true k ih m =
          ⊎_elim (λ (h : z ≡ form x). record { from = x; there = Memᴰ.head refl; taken = k; is = h })
          (λ (h : Memᴰ z (chosen xs)). later x xs z (ih h)) (Memᴰ.cases_cons m)
      by false k ih m = later x xs z (ih m)

  pub stays : (xs : List A) (z : A) → Memᴰ z xs → takes z ≡ true → Memᴰ (form z) (chosen xs)
  unfolding chosen
  stays [] z m h = elim m [ ]
  stays (x ∷ xs) z m h = by (takes x) refl (λ y. stays xs z y h) (Memᴰ.cases_cons m)
    where
      by : (b : Bool) → takes x ≡ b → (Memᴰ z xs → Memᴰ (form z) (chosen xs)) → (z ≡ x) ⊎ Memᴰ z xs
          → Memᴰ (form z) (keep_if b x (chosen xs))
      by true k ih (inl y) = Memᴰ.head (ap form y)
      by true k ih (inr y) = Memᴰ.tail (ih y)
      by false k ih (inl y) = no_false (sym h ∙ ap takes y ∙ k)
      by false k ih (inr y) = ih y

-- The cells of the part are those that `here` takes; `name` is a cell's name there. An entry and an ended operation of it:
abbrev pub named : (ℕ → ℕ) → Entry → Entry
named name e = record { at = e.at; began = e.began; who = e.who; op = e.op; cell = name e.cell; ans = e.ans }

abbrev pub named_done : (ℕ → ℕ) → Done → Done
named_done name d = record { began = d.began; ended = d.ended; who = d.who; op = d.op; cell = name d.cell; ans = d.ans }

pub named_is : (name : ℕ → ℕ) (e : Entry) (d : Done) → Is e d → Is (named name e) (named_done name d)
named_is name e d h = record { began = h.began; who = h.who; op = h.op; cell = ap name h.cell; ans = h.ans; intime = h.intime }

-- the entries, and the ended operations, on the cells of the part
abbrev pub part_of : (ℕ → Bool) → (ℕ → ℕ) → List Entry → List Entry
part_of here name = chosen (λ e. here e.cell) (named name)

abbrev pub part_done : (ℕ → Bool) → (ℕ → ℕ) → List Done → List Done
part_done here name = chosen (λ d. here d.cell) (named_done name)

-- names tell the cells of the part apart
module _ (here : ℕ → Bool) (name : ℕ → ℕ) (apart : (i j : ℕ) → here i ≡ true → here j ≡ true → name i ≡ name j → i ≡ j) (f : ℕ → ℕ) where
  pick_same : {A : Type 0} (c j : ℕ) (x y : A) → here c ≡ true → here j ≡ true
      → pick (ℕ_discrete (name c) (name j)) x y ≡ pick (ℕ_discrete c j) x y
  pick_same {A} c j x y hc hj = by (ℕ_discrete (name c) (name j)) (ℕ_discrete c j)
    where
      by : (d : Dec (name c ≡ name j)) (e : Dec (c ≡ j)) → pick d x y ≡ pick e x y
      by (yes a) (yes b) = refl
      by (yes a) (no b) = absurd (b (apart c j hc hj a))
      by (no a) (yes b) = absurd (a (ap name b))
      by (no a) (no b) = refl

  value_same : (o : Op) (c j x y : ℕ) → here c ≡ true → here j ≡ true → x ≡ y → value_by o (name c) (name j) x ≡ value_by o c j y
  value_same read c j x y hc hj e = e
  value_same asked c j x y hc hj e = e
  value_same (write v) c j x y hc hj e = pick_same c j v x hc hj ∙ ap (λ (u : ℕ). pick (ℕ_discrete c j) v u) e

  written_same : (o : Op) (c j : ℕ) (x y : Bool) → here c ≡ true → here j ≡ true → x ≡ y → written_by o (name c) (name j) x ≡ written_by o c j y
  written_same read c j x y hc hj e = e
  written_same asked c j x y hc hj e = e
  written_same (write v) c j x y hc hj e = pick_same c j true x hc hj ∙ ap (λ (u : Bool). pick (ℕ_discrete c j) true u) e

  -- the whole is filled as the part is, by name
  abbrev whole : ℕ → ℕ
  whole k = f (name k)

  abbrev Same : List Entry → List Entry → ℕ → Type 0
  Same part es j = (value_in f part (name j) ≡ value_in whole es j) × (written_in part (name j) ≡ written_in es j)

  -- the cells of the part hold the same
  same_there : (es : List Entry) (j : ℕ) → here j ≡ true → Same (part_of here name es) es j
  unfolding chosen deeds value written
  same_there [] j h = (refl, refl)
  same_there (e ∷ es) j h = by (here e.cell) refl (same_there es j h)
    where
      by : (b : Bool) → here e.cell ≡ b → Same (part_of here name es) es j
          → Same (keep_if (λ x. here x.cell) (named name) b e (part_of here name es)) (e ∷ es) j
      by true k ih = (value_same e.op e.cell j _ _ k h ih.0, written_same e.op e.cell j _ _ k h ih.1)
      by false k ih = (ih.0 ∙ sym (value_away whole e es j ne), ih.1 ∙ sym (written_away e es j ne))
        where
          ne : j ≢ e.cell
          ne y = no_false (sym h ∙ ap here y ∙ k)

  same_answer : (es : List Entry) (o : Op) (j : ℕ) → here j ≡ true → answer whole (deeds es) o j ≡ answer f (deeds (part_of here name es)) o (name j)
  same_answer es read j h = rw ((same_there es j h).0, (same_there es j h).1)
  same_answer es asked j h = ap told (sym (same_there es j h).1)
  same_answer es (write v) j h = refl

  -- an order of the whole gives an order of the part
  pub part_orderly : (es : List Entry) → Orderly whole es → Orderly f (part_of here name es)
  unfolding chosen
  part_orderly [] h = tt
  part_orderly (e ∷ es) h = by (here e.cell) refl (part_orderly es h.1)
    where
      from : (z : Entry) → Memᴰ z (part_of here name es) → Came (λ x. here x.cell) (named name) es z
      from = came (λ x. here x.cell) (named name) es

      by : (b : Bool) → here e.cell ≡ b → Orderly f (part_of here name es)
          → Orderly f (keep_if (λ x. here x.cell) (named name) b e (part_of here name es))
      by true k ih = (
        record {
          right = h.0.right ∙ same_answer es e.op e.cell k;
          after = h.0.after;
          sorted = λ d m. let c = from d m in subst (λ (x : Entry). x.at ≤ e.at) (sym c.is) (h.0.sorted c.from c.there);
          once = λ d m. let c = from d m in subst (λ (x : Entry). x.began ≢ e.began) (sym c.is) (h.0.once c.from c.there);
        },
        ih,
      )
      by false k ih = ih
