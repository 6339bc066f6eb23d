-- What a store into a part of the pool makes of the pool.
-- Assumes nothing.
use mathlib.Core.Path.{◌≡◌, refl, ap, sym, ◌∙◌}
use mathlib.Core.Bool.{Bool, true, false}
use mathlib.Core.List.{List, ◌++◌}
use Prim.Native.Nat.{ℕ, ◌+◌, ◌-◌, ◌<◌, ◌≤◌}
use native.Mathlib.Omega.{arith}
use lib.Dec.{ltb}
use lib.ListN.{length, set, take, drop, length-drop, take-append-drop}
use lib.Seq.{set-append_left, set_out, length-take-le, take-set-le, drop-set-add}
use borrow.Author.Tests.{ltb-true, ltb-false}
use Rattle.numbers.specs.Numbers.{offset_of}
use Rattle.steps.specs.Inner.{Part}

part_set : (xs : List ℕ) (a k o v : ℕ) → a + k ≤ length xs → o < k
    → take a xs ++ (set (take k (drop a xs)) o v ++ drop k (drop a xs)) ≡ set xs (a + o) v
part_set xs a k o v h l =
    let room : k ≤ length (drop a xs) = simp length-drop (omega arith) in
    let long : o < length (take k (drop a xs)) = rw (length-take-le k (drop a xs) room) l in
    let inner : set (take k (drop a xs)) o v ++ drop k (drop a xs) ≡ set (drop a xs) o v =
    sym (set-append_left (take k (drop a xs)) (drop k (drop a xs)) o v long)
    ∙ ap (λ (y : List ℕ). set y o v) (take-append-drop k (drop a xs)) in
    let first : take a (set xs (a + o) v) ≡ take a xs = take-set-le a xs (a + o) v (omega arith) in
    let second : drop a (set xs (a + o) v) ≡ set (drop a xs) o v = drop-set-add a xs o v in
    ap (λ (y : List ℕ). take a xs ++ y) inner
    ∙ sym (sym (take-append-drop a (set xs (a + o) v)) ∙ rw (first, second))

part_kept : (xs : List ℕ) (a k o v : ℕ) → a + k ≤ length xs → k ≤ o
    → take a xs ++ (set (take k (drop a xs)) o v ++ drop k (drop a xs)) ≡ xs
part_kept xs a k o v h l =
    let room : k ≤ length (drop a xs) = simp length-drop (omega arith) in
    let short : length (take k (drop a xs)) ≤ o = rw (length-take-le k (drop a xs) room) l in
    rw (set_out (take k (drop a xs)) o v short, take-append-drop k (drop a xs)) (take-append-drop a xs)

module _ (pool : List ℕ) (start n o v : ℕ) (e : o ≡ offset_of n) where
  at_start : start + offset_of n ≡ start + o
  at_start = rw e

  pub put_part : (end : ℕ) (ys : List ℕ) → Part (length pool) start n end → ys ≡ set (take (end - start) (drop start pool)) o v
      → take start pool ++ (ys ++ drop (end - start) (drop start pool)) ≡ set pool (start + offset_of n) v
  put_part end ys h f = rw (f, at_start) (by (ltb o (end - start)) refl)
    where
      fits : start + (end - start) ≤ length pool
      fits = omega (arith, h.low, h.high)

      by : (b : Bool) → ltb o (end - start) ≡ b
          → take start pool ++ (set (take (end - start) (drop start pool)) o v ++ drop (end - start) (drop start pool)) ≡ set pool (start + o) v
      by true g = part_set pool start (end - start) o v fits (ltb-true o (end - start) g)
      by false g =
          let x : end - start ≤ o = ltb-false o (end - start) g in
          part_kept pool start (end - start) o v fits x ∙ sym (set_out pool (start + o) v (outside x (ltb (start + o) (length pool)) refl))
        where
          outside : end - start ≤ o → (b : Bool) → ltb (start + o) (length pool) ≡ b → length pool ≤ start + o
          outside x true k =
              let j : start + offset_of n < length pool = rw at_start (ltb-true (start + o) (length pool) k) in
              absurd (let y : ⊥ = omega (arith, h.holds j, h.low) in y)
          outside x false k = ltb-false (start + o) (length pool) k
