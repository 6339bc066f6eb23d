-- Operations one after another, each ended before the next begins: each answer is the array's after those before it.
-- Assumes nothing.
use Rattle.std.specs.Prelude.{◌≡◌, refl, ◌⊎◌, Bool, true, false, ℕ, ◌<◌}
use Rattle.std.proofs.Common.{sym, ap, ◌∙◌, subst, inl, inr, arith}
use mathlib.Core.List.Memᴰ
use mathlib.Core.List.{List, [], ◌∷◌, Memᴰ}
use Rattle.theory.specs.Array.{Ans, Deed, answer}
use Rattle.theory.specs.Order.{Entry, Done, deeds, Orderly, Is}
use Rattle.theory.specs.OrderLaws.{began_before}
use Rattle.theory.proofs.Part.{chosen, keep_if, came, named_done, part_done}

-- ended operations, the newest first: what was asked, and what was answered
abbrev pub deeds_of : List Done → List Deed
deeds_of [] = []
deeds_of (d ∷ ds) = record { op = d.op; cell = d.cell } ∷ deeds_of ds

abbrev pub answers_of : List Done → List Ans
answers_of [] = []
answers_of (d ∷ ds) = d.ans ∷ answers_of ds

-- each has begun after those before it have ended
abbrev pub InTurn : List Done → Type 0
InTurn [] = Unit {0}
InTurn (d ∷ ds) = ((e : Done) → Memᴰ e ds → e.ended < d.began) × InTurn ds

-- each answer is the array's after those before it
abbrev pub Replies : (ℕ → ℕ) → List Done → Type 0
Replies f [] = Unit {0}
Replies f (d ∷ ds) = (d.ans ≡ answer f (deeds_of ds) d.op d.cell) × Replies f ds

-- so the same questions get the same answers
pub same_answers : (f : ℕ → ℕ) (ds es : List Done) → Replies f ds → Replies f es → deeds_of ds ≡ deeds_of es → answers_of ds ≡ answers_of es
same_answers f [] [] r s e = refl
same_answers f [] (x ∷ es) r s e = absurd (let y : ◌≡◌ {A = ℕ} 0 1 = cc in omega arith)
same_answers f (d ∷ ds) [] r s e = absurd (let y : ◌≡◌ {A = ℕ} 0 1 = cc in omega arith)
same_answers f (d ∷ ds) (x ∷ es) r s e =
    let tails : deeds_of ds ≡ deeds_of es = cc in
    let heads : ◌≡◌ {A = Deed} (record { op = d.op; cell = d.cell }) (record { op = x.op; cell = x.cell }) = cc in
    let ops : d.op ≡ x.op = ap (λ (u : Deed). u.op) heads in
    let cells : d.cell ≡ x.cell = ap (λ (u : Deed). u.cell) heads in
    let rest = same_answers f ds es r.1 s.1 tails in
    let here : d.ans ≡ x.ans = r.0 ∙ (λ z. answer f (tails z) (ops z) (cells z)) ∙ sym s.0 in
    λ z. here z ∷ rest z

-- an order has all the ended operations, and nothing else
abbrev Complete : List Entry → List Done → Type 0
Complete O E = (d : Done) → Memᴰ d E → (e : Entry) × Memᴰ e O × Is e d

abbrev Sound : List Entry → List Done → Type 0
Sound O E = (e : Entry) → Memᴰ e O → (d : Done) × Memᴰ d E × Is e d

-- an order of operations that ran one after another is the order in which they ran
pub in_turn : (f : ℕ → ℕ) (O : List Entry) (E : List Done) → Orderly f O → InTurn E → Complete O E → Sound O E → (deeds O ≡ deeds_of E) × Replies f E
unfolding deeds
in_turn f [] [] o t c s = (refl, tt)
in_turn f [] (d ∷ E) o t c s = let m = (c d (Memᴰ.head refl)).1 in elim m [ ]
in_turn f (x ∷ O) [] o t c s = let m = (s x (Memᴰ.head refl)).1 in elim m [ ]
in_turn f (x ∷ O) (d ∷ E) o t c s =
    let ih = in_turn f O E o.1 t.1 complete sound in (
      λ z. record { op = newest.op z; cell = newest.cell z } ∷ ih.0 z,
      (sym newest.ans ∙ o.0.right ∙ (λ z. answer f (ih.0 z) (newest.op z) (newest.cell z)), ih.1),
    )
  where
    late : (e : Entry) → Memᴰ e (x ∷ O) → e.began < e.at
    late e m = began_before f (x ∷ O) o e m

    -- no entry stands for the last and for one before it
    two : (e : Entry) (y : Done) → Memᴰ e (x ∷ O) → Is e d → Memᴰ y E → Is e y → ⊥
    two e y me i my j = omega (arith, late e me, t.0 y my, i.began, j.intime)

    -- the newest entry is the one that ran last
    newest : Is x d
    newest = at (s x (Memᴰ.head refl)).0 (Memᴰ.cases_cons (s x (Memᴰ.head refl)).1) (s x (Memᴰ.head refl)).2
      where
        after : (e : Entry) → (e ≡ x) ⊎ Memᴰ e O → Is e d → (y : Done) → Memᴰ y E → Is x y → ⊥
        after e (inl h) i y my j = two x y (Memᴰ.head refl) (subst (λ (u : Entry). Is u d) h i) my j
        after e (inr h) i y my j = omega (arith, late e (Memᴰ.tail h), o.0.sorted e h, t.0 y my, i.began, j.intime)

        at : (y : Done) → (y ≡ d) ⊎ Memᴰ y E → Is x y → Is x d
        at y (inl h) j = subst (λ (u : Done). Is x u) h j
        at y (inr h) j = let k = c d (Memᴰ.head refl) in absurd (after k.0 (Memᴰ.cases_cons k.1) k.2 y h j)

    complete : Complete O E
    complete y my = let k = c y (Memᴰ.tail my) in at k.0 (Memᴰ.cases_cons k.1) k.2
      where
        at : (e : Entry) → (e ≡ x) ⊎ Memᴰ e O → Is e y → (e : Entry) × Memᴰ e O × Is e y
        at e (inl h) i = absurd (two x y (Memᴰ.head refl) newest my (subst (λ (u : Entry). Is u y) h i))
        at e (inr h) i = (e, h, i)

    sound : Sound O E
    sound e me = let k = s e (Memᴰ.tail me) in at k.0 (Memᴰ.cases_cons k.1) k.2
      where
        at : (y : Done) → (y ≡ d) ⊎ Memᴰ y E → Is e y → (y : Done) × Memᴰ y E × Is e y
        at y (inl h) i = absurd (o.0.once e me (i.began ∙ ap (λ (u : Done). u.began) h ∙ sym newest.began))
        at y (inr h) i = (y, h, i)

-- the operations on a part of the cells ran one after another too
pub part_in_turn : (here : ℕ → Bool) (name : ℕ → ℕ) (ds : List Done) → InTurn ds → InTurn (part_done here name ds)
unfolding chosen
part_in_turn here name [] t = tt
part_in_turn here name (d ∷ ds) t = by (here d.cell) (part_in_turn here name ds t.1)
  where
    by : (b : Bool) → InTurn (part_done here name ds) → InTurn (keep_if (λ x. here x.cell) (named_done name) b d (part_done here name ds))
    by true ih = (
      λ e m. let k = came (λ x. here x.cell) (named_done name) ds e m in subst (λ (u : Done). u.ended < d.began) (sym k.is) (t.0 k.from k.there),
      ih,
    )
    by false ih = ih
