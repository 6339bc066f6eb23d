-- What holds of lists by number, and what one store more makes of a list that is filled from its start.
-- Assumes nothing.
use Rattle.std.specs.Prelude.{ℕ, zero, suc, ◌+◌, ◌≤◌, ◌<◌, ◌≡◌, refl, Bool, true, false, List, [], ◌∷◌, ◌++◌, length, get_or, set, drop}
use Rattle.std.proofs.Common.{sym, ap, ◌∙◌, append_assoc, append-nil, add-one, arith, length-append, drop-cons}
use Rattle.std.proofs.Math.Decide.{ℕ_discrete}
use Rattle.std.proofs.Math.ListN.{get_or-append}
use Rattle.std.proofs.lemmas.List.{set_at, get_or_at}
use Rattle.logic.specs.Pick.{pick}
use Rattle.lists.specs.Lists.{gathered, each, those}

pub gathered_same : {A : Type 0} (n : ℕ) (f g : ℕ → List A) → ((i : ℕ) → i < n → f i ≡ g i) → gathered n f ≡ gathered n g
unfolding gathered
gathered_same zero f g h = refl
gathered_same (suc n) f g h = rw (gathered_same n f g (λ i k. h i (omega arith)), h n (omega arith))

-- ---- a rule's values

pub each_length : (n : ℕ) (f : ℕ → ℕ) → length (each n f) ≡ n
unfolding gathered
each_length zero f = refl
each_length (suc n) f = length-append (each n f) (f n ∷ []) ∙ omega (arith, each_length n f)

pub each_at : (n i : ℕ) (f : ℕ → ℕ) → i < n → get_or (each n f) i 0 ≡ f i
unfolding gathered
each_at zero i f h = absurd (let y : ⊥ = omega arith in y)
each_at (suc n) i f h = by (ℕ_discrete i n) (each_at n i f)
  where
    by : Dec (i ≡ n) → (i < n → get_or (each n f) i 0 ≡ f i) → get_or (each n f ++ (f n ∷ [])) i 0 ≡ f i
    by (yes e) ih = rw e (get_or_at (each n f) (f n) [] 0 n (each_length n f))
    by (no e) ih = get_or-append (each n f) (f n ∷ []) 0 i (omega (arith, each_length n f)) ∙ ih (omega arith)

-- the rule's next value is stored
pub each_set : (n : ℕ) (f : ℕ → ℕ) (xs : List ℕ) (v : ℕ) → n < length xs → v ≡ f n → set (each n f ++ drop n xs) n v ≡ each (n + 1) f ++ drop (n + 1) xs
unfolding gathered
each_set n f xs v h e =
    rw (e, add-one n, drop-cons xs n 0 h)
    (set_at (each n f) (get_or xs n 0) (drop (suc n) xs) (f n) n (each_length n f) ∙ sym (append_assoc (each n f) (f n ∷ []) (drop (suc n) xs)))

-- the word there already is the rule's next value
pub each_keep : (n : ℕ) (f : ℕ → ℕ) (xs : List ℕ) → n < length xs → get_or xs n 0 ≡ f n → each n f ++ drop n xs ≡ each (n + 1) f ++ drop (n + 1) xs
unfolding gathered
each_keep n f xs h e = rw (add-one n, drop-cons xs n 0 h, e) (sym (append_assoc (each n f) (f n ∷ []) (drop (suc n) xs)))

-- what is next is still as it was
pub each_next : (n : ℕ) (f : ℕ → ℕ) (xs : List ℕ) → n < length xs → get_or (each n f ++ drop n xs) n 0 ≡ get_or xs n 0
each_next n f xs h = rw (drop-cons xs n 0 h) (get_or_at (each n f) (get_or xs n 0) (drop (suc n) xs) 0 n (each_length n f))

-- ---- the numbers that pass a test

pub those_taken : (n : ℕ) (w : ℕ → Bool) → w n ≡ true → those (n + 1) w ≡ those n w ++ (n ∷ [])
unfolding gathered
those_taken n w e = rw (add-one n) (rw e)

pub those_left : (n : ℕ) (w : ℕ → Bool) → w n ≡ false → those (n + 1) w ≡ those n w
unfolding gathered
those_left n w e = rw (add-one n) (rw e (append-nil (those n w)))

pub those_few : (n : ℕ) (w : ℕ → Bool) → length (those n w) ≤ n
unfolding gathered
those_few zero w = omega arith
those_few (suc n) w = by (w n) (those_few n w)
  where
    by : (b : Bool) → length (those n w) ≤ n → length (those n w ++ pick b (n ∷ []) []) ≤ suc n
    by true h = omega (arith, length-append (those n w) (n ∷ []), h)
    by false h = omega (arith, length-append (those n w) [], h)

-- one number more is stored at the end
pub those_set : (n : ℕ) (w : ℕ → Bool) (xs : List ℕ) → length (those n w) < length xs → w n ≡ true
    → set (those n w ++ drop (length (those n w)) xs) (length (those n w)) n ≡ those (n + 1) w ++ drop (length (those (n + 1) w)) xs
those_set n w xs h e =
    rw (those_taken n w e, drop-cons xs (length (those n w)) 0 h, length-append (those n w) (n ∷ []), add-one (length (those n w)))
    (set_at (those n w) (get_or xs (length (those n w)) 0) (drop (suc (length (those n w))) xs) n (length (those n w)) refl
    ∙ sym (append_assoc (those n w) (n ∷ []) (drop (suc (length (those n w))) xs)))

-- a number that passes stands where as many as pass before it say
pub record Stands (n i : ℕ) (w : ℕ → Bool) : Type 0 where
  pub place : length (those i w) < length (those n w)
  pub is : get_or (those n w) (length (those i w)) 0 ≡ i

pub those_at : (n i : ℕ) (w : ℕ → Bool) → i < n → w i ≡ true → Stands n i w
unfolding gathered
those_at zero i w h e = absurd (let y : ⊥ = omega arith in y)
those_at (suc n) i w h e = by (ℕ_discrete i n) (those_at n i w)
  where
    more : List ℕ
    more = pick (w n) (n ∷ []) []

    by : Dec (i ≡ n) → (i < n → w i ≡ true → Stands n i w) → Stands (suc n) i w
    by (yes z) ih =
        let t : w n ≡ true = ap w (sym z) ∙ e in
        record {
          place = rw (z, t) (omega (arith, length-append (those n w) (n ∷ [])));
          is = rw (z, t) (get_or_at (those n w) n [] 0 (length (those n w)) refl);
        }
    by (no z) ih =
        let s = ih (omega arith) e in
        record {
          place = omega (arith, length-append (those n w) more, s.place);
          is = get_or-append (those n w) more 0 (length (those i w)) s.place ∙ s.is;
        }

-- and every place holds a number that passes, with as many before it as the place says
pub record Holds (n k : ℕ) (w : ℕ → Bool) : Type 0 where
  pub low : get_or (those n w) k 0 < n
  pub passes : w (get_or (those n w) k 0) ≡ true
  pub before : length (those (get_or (those n w) k 0) w) ≡ k

holds_with : (n k : ℕ) (w : ℕ → Bool) (i : ℕ) → get_or (those n w) k 0 ≡ i → i < n → w i ≡ true → length (those i w) ≡ k → Holds n k w
holds_with n k w i e a b c = record { low = rw e a; passes = rw e b; before = rw e c }

pub those_holds : (n k : ℕ) (w : ℕ → Bool) → k < length (those n w) → Holds n k w
unfolding gathered
those_holds zero k w h = absurd (let y : ⊥ = omega arith in y)
those_holds (suc n) k w h = by (w n) refl (those_holds n k w)
  where
    earlier : (more : List ℕ) → pick (w n) (n ∷ []) [] ≡ more → k < length (those n w) → Holds n k w → Holds (suc n) k w
    earlier more e l H =
        holds_with (suc n) k w (get_or (those n w) k 0) (get_or-append (those n w) (pick (w n) (n ∷ []) []) 0 k l)
        (omega (arith, H.low)) H.passes H.before

    by : (b : Bool) → w n ≡ b → (k < length (those n w) → Holds n k w) → Holds (suc n) k w
    by false e ih =
        let l : k < length (those n w) = omega (
          arith,
          length-append (those n w) (pick (w n) (n ∷ []) []),
          h,
          ap
              (λ (b : Bool). length (pick b (n ∷ []) [])) e,
        ) in
        earlier _ refl l (ih l)
    by true e ih = at (ℕ_discrete k (length (those n w)))
      where
        whole : length (those n w ++ pick (w n) (n ∷ []) []) ≡ length (those n w) + 1
        whole = length-append (those n w) (pick (w n) (n ∷ []) []) ∙ ap (λ (b : Bool). length (those n w) + length (pick b (n ∷ []) [])) e

        at : Dec (k ≡ length (those n w)) → Holds (suc n) k w
        at (yes z) =
            holds_with (suc n) k w n
            (rw (z, e) (get_or_at (those n w) n [] 0 (length (those n w)) refl))
            (omega arith) e (sym z)
        at (no z) = let l : k < length (those n w) = omega (arith, whole, h) in earlier _ refl l (ih l)
