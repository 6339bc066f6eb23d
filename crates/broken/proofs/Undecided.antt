-- One order for each run is less than an order that grows: two writes overlap and end, and only a read that comes later tells
-- which of them was the last. Every book of it has one order; together they have none that grows.
-- Assumes nothing.
use Rattle.std.specs.Prelude.{ℕ, ◌≤◌, ◌<◌, ◌≡◌, refl, ◌⊎◌, ◌≢◌, Bool, true, false}
use Rattle.std.proofs.Common.{sym, ap, ◌∙◌, subst, inl, inr, ⊎_elim, arith}
use mathlib.Core.List.Memᴰ
use mathlib.Core.List.{List, [], ◌∷◌, ◌++◌, Memᴰ}
use Rattle.std.proofs.Math.Decide.{ℕ_discrete}
use Rattle.theory.specs.Array.{Op, read, asked, write, got, Writing, value_by, value, written, answer}
use Rattle.theory.specs.Order.{Done, Entry, deeds, Orderly, Is, value_in, written_in}
use Rattle.demands.specs.Demand2.{OneOrder}
use Rattle.demands.specs.Growing.{Placed, Growing}
use Rattle.broken.specs.Undecided.{filled, first, second, seen, reading, ended_in, book}

-- ---- each has one order

-- every element of a list
abbrev All : {A : Type 0} → (A → Type 0) → List A → Type 0
All P [] = Unit {0}
All P (x ∷ xs) = P x × All P xs

every : {A : Type 0} (P : A → Type 0) (xs : List A) → All P xs → (e : A) → Memᴰ e xs → P e
every P [] h e m = elim m [ ]
every P (x ∷ xs) h e m = ⊎_elim (λ (k : e ≡ x). subst P (sym k) h.0) (λ (n : Memᴰ e xs). every P xs h.1 e n) (Memᴰ.cases_cons m)

-- an ended operation at its place
abbrev put : Done → ℕ → Entry
put d t = record { at = t; began = d.began; who = d.who; op = d.op; cell = d.cell; ans = d.ans }

is : (d : Done) (t : ℕ) → t ≤ d.ended → Is (put d t) d
is d t h = record { began = refl; who = refl; op = refl; cell = refl; ans = refl; intime = h }

-- two writes that take their places at call 2, a before b; and a read that takes its place at call 5
abbrev both : Done → Done → List Entry
both a b = put b 2 ∷ put a 2 ∷ []

both_orderly : (a b : Done) → a.began < 2 → b.began < 2 → a.began ≢ b.began → a.ans ≡ answer filled (deeds []) a.op a.cell
    → b.ans ≡ answer filled (deeds (put a 2 ∷ [])) b.op b.cell → Orderly filled (both a b)
both_orderly a b ha hb apart ra rb = (
  record {
    right = rb;
    after = hb;
    sorted = every (λ d. d.at ≤ 2) (put a 2 ∷ []) (omega arith, tt);
    once = every (λ d. d.began ≢ b.began) (put a 2 ∷ []) (apart, tt);
  },
  (record { right = ra; after = ha; sorted = λ d m. elim m [ ]; once = λ d m. elim m [ ] }, tt),
)

read_orderly : (a b : Done) (c : Bool) → a.began < 2 → b.began < 2 → Orderly filled (both a b)
    → got (seen c) true ≡ answer filled (deeds (both a b)) read 0 → Orderly filled (put (reading c) 5 ∷ both a b)
read_orderly a b c ha hb O r = (
  record {
    right = r;
    after = omega arith;
    sorted = every (λ d. d.at ≤ 5) (both a b) (omega arith, (omega arith, tt));
    once = every (λ d. d.began ≢ 4) (both a b) ((λ k. omega arith), ((λ k. omega arith), tt));
  },
  O,
)

abbrev Stands : List Entry → Done → Type 0
Stands order d = (e : Entry) × Memᴰ e order × Is e d

abbrev Comes : List Done → Entry → Type 0
Comes ended e = (d : Done) × Memᴰ d ended × Is e d

ordered : (cs : List Bool) (order : List Entry) → Orderly filled order → All (Stands order) (ended_in cs) → All (Comes (ended_in cs)) order
    → OneOrder filled (book cs)
ordered cs order o c s = record {
  order = order;
  orderly = o;
  complete = every (Stands order) (ended_in cs) c;
  sound = λ e m. inl (every (Comes (ended_in cs)) order s e m);
}

first_last : Orderly filled (both second first)
unfolding value written deeds ℕ_discrete
first_last = both_orderly second first (omega arith) (omega arith) (λ k. omega arith) refl refl

second_last : Orderly filled (both first second)
unfolding value written deeds ℕ_discrete
second_last = both_orderly first second (omega arith) (omega arith) (λ k. omega arith) refl refl

-- the first, the second and the third of a list
at_1 : {A : Type 0} {x : A} {xs : List A} → Memᴰ x (x ∷ xs)
at_1 = Memᴰ.head refl

at_2 : {A : Type 0} {x y : A} {xs : List A} → Memᴰ y (x ∷ y ∷ xs)
at_2 = Memᴰ.tail at_1

at_3 : {A : Type 0} {x y z : A} {xs : List A} → Memᴰ z (x ∷ y ∷ z ∷ xs)
at_3 = Memᴰ.tail at_2

is_first : Is (put first 2) first
is_first = is first 2 (omega arith)

is_second : Is (put second 2) second
is_second = is second 2 (omega arith)

is_read : (c : Bool) → Is (put (reading c) 5) (reading c)
is_read c = is (reading c) 5 (omega arith)

pub each_has_one_order : (cs : List Bool) → OneOrder filled (book cs)
unfolding value written deeds ℕ_discrete
each_has_one_order [] = ordered [] (both first second) second_last
    ((put second 2, at_1, is_second), ((put first 2, at_2, is_first), tt)) ((second, at_1, is_second), ((first, at_2, is_first), tt))
each_has_one_order (true ∷ cs) =
    ordered (true ∷ cs) (put (reading true) 5 ∷ both second first) (read_orderly second first true (omega arith) (omega arith) first_last refl)
    ((put (reading true) 5, at_1, is_read true), ((put second 2, at_3, is_second), ((put first 2, at_2, is_first), tt)))
    ((reading true, at_1, is_read true), ((first, at_3, is_first), ((second, at_2, is_second), tt)))
each_has_one_order (false ∷ cs) =
    ordered (false ∷ cs) (put (reading false) 5 ∷ both first second) (read_orderly first second false (omega arith) (omega arith) second_last refl)
    ((put (reading false) 5, at_1, is_read false), ((put second 2, at_2, is_second), ((put first 2, at_3, is_first), tt)))
    ((reading false, at_1, is_read false), ((second, at_2, is_second), ((first, at_3, is_first), tt)))

-- ---- together they have none that grows

-- what is new in an orderly list is no operation that was there
new_began : (f : ℕ → ℕ) (newer older : List Entry) → Orderly f (newer ++ older) → (x y : Entry) → Memᴰ x newer → Memᴰ y older
    → y.began ≢ x.began
new_began f [] older O x y mx my = elim mx [ ]
new_began f (z ∷ newer) older O x y mx my = by (Memᴰ.cases_cons mx) (λ m. new_began f newer older O.1 x y m my)
  where
    by : (x ≡ z) ⊎ Memᴰ x newer → (Memᴰ x newer → y.began ≢ x.began) → y.began ≢ x.began
    by (inl k) ih = subst (λ (e : Entry). y.began ≢ e.began) (sym k) (O.0.once y (Memᴰ.append_right newer my))
    by (inr m) ih = ih m

-- new entries that do not write leave every cell
same_value : (f : ℕ → ℕ) (newer older : List Entry) (i : ℕ) → ((x : Entry) → Memᴰ x newer → Writing x.op → ⊥)
    → value_in f (newer ++ older) i ≡ value_in f older i
unfolding value deeds
same_value f [] older i h = refl
same_value f (x ∷ newer) older i h = by x.op (h x (Memᴰ.head refl)) (same_value f newer older i (λ y m. h y (Memᴰ.tail m)))
  where
    by : (o : Op) → (Writing o → ⊥) → value_in f (newer ++ older) i ≡ value_in f older i
        → value_by o x.cell i (value_in f (newer ++ older) i) ≡ value_in f older i
    by read n ih = ih
    by asked n ih = ih
    by (write v) n ih = absurd (n tt)

-- a new read then gets what was there
gets : (f : ℕ → ℕ) (newer older : List Entry) → Orderly f (newer ++ older) → ((x : Entry) → Memᴰ x newer → Writing x.op → ⊥)
    → (e : Entry) → Memᴰ e newer → e.op ≡ read → (v : ℕ) (t : Bool) → e.ans ≡ got v t → v ≡ value_in f older e.cell
gets f [] older O h e m k v t a = elim m [ ]
gets f (x ∷ newer) older O h e m k v t a =
    ⊎_elim own (λ (n : Memᴰ e newer). gets f newer older O.1 (λ y n. h y (Memᴰ.tail n)) e n k v t a) (Memᴰ.cases_cons m)
  where
    own : e ≡ x → v ≡ value_in f older e.cell
    own p =
        let r : e.ans ≡ answer f (deeds (newer ++ older)) e.op e.cell =
        subst (λ (y : Entry). y.ans ≡ answer f (deeds (newer ++ older)) y.op y.cell) (sym p) O.0.right in
        let g : got v t ≡ got (value_in f (newer ++ older) e.cell) (written_in (newer ++ older) e.cell) =
        sym a ∙ r ∙ ap (λ (o : Op). answer f (deeds (newer ++ older)) o e.cell) k in
        let y : v ≡ value_in f (newer ++ older) e.cell = cc in
        y ∙ same_value f newer older e.cell (λ z n. h z (Memᴰ.tail n))

-- nobody is under way
nobody : (cs : List Bool) (e : Entry) → Placed (book cs) e → ⊥
nobody cs e p = let k = p.under_way.doing in let y : ◌≡◌ {A = ℕ} 0 1 = cc in omega arith

module _ (G : Growing filled book) (c : Bool) where
  abbrev O : List Entry
  O = (G.orders []).order

  abbrev newer : List Entry
  newer = (G.grows [] (c ∷ [])).newer

  now_orderly : Orderly filled (newer ++ O)
  now_orderly = subst (Orderly filled) (G.grows [] (c ∷ [])).split (G.orders (c ∷ [])).orderly

  was : (d : Done) → Memᴰ d (second ∷ first ∷ []) → (x : Entry) → Memᴰ x newer → Is x d → ⊥
  was d m x mx k = let y = (G.orders []).complete d m in
      new_began filled newer O now_orderly x y.0 mx y.1 (y.2.began ∙ sym k.began)

  no_write : (x : Entry) → Memᴰ x newer → Writing x.op → ⊥
  no_write x m w =
      by ((G.orders (c ∷ [])).sound x (subst (Memᴰ x) (sym (G.grows [] (c ∷ [])).split) (Memᴰ.append_left O m)))
    where
      of : (d : Done) → (d ≡ reading c) ⊎ Memᴰ d (second ∷ first ∷ []) → Is x d → ⊥
      of d (inl p) k = subst Writing (k.op ∙ ap (λ (y : Done). y.op) p) w
      of d (inr n) k = was d n x m k

      by : Comes (ended_in (c ∷ [])) x ⊎ Placed (book (c ∷ [])) x → ⊥
      by (inl d) = of d.0 (Memᴰ.cases_cons d.1) d.2
      by (inr p) = nobody (c ∷ []) x p

  R : Stands (G.orders (c ∷ [])).order (reading c)
  R = (G.orders (c ∷ [])).complete (reading c) at_1

  is_new : Comes (ended_in []) R.0 ⊎ Placed (book []) R.0 → ⊥
  is_new (inl d) = every (λ x. x.began ≢ 4) (ended_in []) ((λ k. omega arith), ((λ k. omega arith), tt)) d.0 d.1 (sym d.2.began ∙ R.2.began)
  is_new (inr p) = nobody [] R.0 p

  -- the value that the order after both writes leaves is the one that is read
  decided : seen c ≡ value_in filled O 0
  decided = by (Memᴰ.append_cases newer (subst (Memᴰ R.0) (G.grows [] (c ∷ [])).split R.1))
    where
      by : Memᴰ R.0 newer ⊎ Memᴰ R.0 O → seen c ≡ value_in filled O 0
      by (inl m) = gets filled newer O now_orderly no_write R.0 m R.2.op (seen c) true R.2.ans ∙ ap (value_in filled O) R.2.cell
      by (inr m) = absurd (is_new ((G.orders []).sound R.0 m))

pub none_grows : Growing filled book → ⊥
none_grows G = let y : ◌≡◌ {A = ℕ} 8 9 = decided G true ∙ sym (decided G false) in omega arith
