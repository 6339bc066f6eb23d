-- What bytes, words and numbers make of a line, and that a short line is not cut.
-- Assumes nothing.
use Rattle.std.proofs.Common.{ℕ, zero, suc, ◌+◌, ◌-◌, ◌/◌, ◌%◌, ◌^◌, ◌<◌, ◌≤◌, ◌≡◌, refl, sym, ap, ◌∙◌, List, [], ◌∷◌, ◌++◌, append_assoc, append-nil, arith, add-one, length, get_or, take, set, length-append, length-take, length-set, take_at}
use native.Mathlib.Nat.{pow-succ'}
use lib.ListN.{drop, length-drop}
use lib.Seq.{take_all, take-suc-set, take-suc, drop-cons, drop-set-lt, get_or-set_same}
use Rattle.byte_lists.specs.Bytes.{digit, decimal}
use Rattle.byte_lists.specs.Decimals.{decimal_low, decimal_step}
use Rattle.byte_lists.specs.declared.line.Line.{Line}
use Rattle.byte_lists.specs.Lines.{room, so_far, cut, Grown}

-- what was cut before is cut after
pub cut_again : (n : ℕ) (xs ys : List ℕ) → take n (take n xs ++ ys) ≡ take n (xs ++ ys)
cut_again zero xs ys = refl
cut_again (suc n) [] ys = refl
cut_again (suc n) (x ∷ xs) ys = ap (λ (l : List ℕ). x ∷ l) (cut_again n xs ys)

pub then : (l r s : Line) (a b : List ℕ) → Grown l r a → Grown r s b → Grown l s (a ++ b)
then l r s a b e f = record { is = f.is ∙ rw e.is (cut_again room (so_far l ++ a) b ∙ ap cut (append_assoc (so_far l) a b)) }

-- the bytes of a line are within its room
so_far_short : (l : Line) → length (so_far l) ≤ room
so_far_short l = let e = l.sized in simp length-take (omega arith)

pub byte_in : (l r : Line) (b : ℕ) → l.len < room → r.bytes ≡ set l.bytes l.len b → r.len ≡ l.len + 1 → Grown l r (b ∷ [])
byte_in l r b h e f =
    let sized = l.sized in
    let inside : l.len < length l.bytes = omega arith in
    let short : length (so_far l ++ (b ∷ [])) ≤ room = simp (length-append, length-take) (omega arith) in
    record { is = rw (e, f, add-one) (take-suc-set l.bytes l.len b inside ∙ sym (take_all room (so_far l ++ (b ∷ [])) short)) }

pub byte_past : (l : Line) (b : ℕ) → room ≤ l.len → Grown l l (b ∷ [])
byte_past l b h =
    let sized = l.sized in
    let all : so_far l ≡ l.bytes = take_all l.len l.bytes (omega arith) in
    record { is = rw all (sym (take_at l.bytes (b ∷ []) room sized)) }

-- a word, byte by byte
pub word_start : (l : Line) (w : List ℕ) → Grown l l (take 0 w)
word_start l w = record { is = sym (ap cut (append-nil (so_far l)) ∙ take_all room (so_far l) (so_far_short l)) }

pub word_next : (l r s : Line) (w : List ℕ) (i : ℕ) → i < length w → Grown l r (take i w) → Grown r s (get_or w i 0 ∷ [])
    → Grown l s (take (i + 1) w)
word_next l r s w i h e f = rw (add-one i, take-suc w i 0 h) (then l r s (take i w) (get_or w i 0 ∷ []) e f)

pub word_end : (l r : Line) (w : List ℕ) (i : ℕ) → length w ≤ i → Grown l r (take i w) → Grown l r w
word_end l r w i k e = rw (take_all i w k) at e

-- a number, from its last digit on: what is left of it, and the digits from place i on
pub record Left (n rest i : ℕ) (ds : List ℕ) : Type 0 where
  pub low : 0 < i
  pub high : i ≤ 20
  pub sized : length ds ≡ 20
  pub fits : rest < 10 ^ i
  pub is : decimal n ≡ decimal rest ++ drop i ds

tenth : (i n : ℕ) → 10 ≤ n → n < 10 ^ i → (1 < i) × (n / 10 < 10 ^ (i - 1))
tenth zero n h l = absurd (let y : ⊥ = omega arith in y)
tenth (suc zero) n h l = absurd (let y : ⊥ = omega arith in y)
tenth (suc (suc i)) n h l =
    let ten = pow-succ' 10 (suc i) in
    let e : suc (suc i) - 1 ≡ suc i = omega arith in
    (omega arith, rw e (omega arith))

dropped : (ds : List ℕ) (i d : ℕ) → 0 < i → i ≤ length ds → drop (i - 1) (set ds (i - 1) d) ≡ d ∷ drop i ds
dropped ds zero d h l = absurd (let y : ⊥ = omega arith in y)
dropped ds (suc i) d h l =
    let e : suc i - 1 ≡ i = omega arith in
    let inside : i < length (set ds i d) = simp length-set (omega arith) in
    rw e (drop-cons (set ds i d) i 0 inside ∙ rw (get_or-set_same ds i d 0, drop-set-lt (suc i) ds i d (omega arith)))

pub left_next : (n rest i : ℕ) (ds : List ℕ) → 10 ≤ rest → Left n rest i ds → Left n (rest / 10) (i - 1) (set ds (i - 1) (48 + rest % 10))
left_next n rest i ds t h =
    let s = tenth i rest t h.fits in
    record {
      low = omega arith;
      high = omega arith;
      sized = length-set ds (i - 1) (48 + rest % 10) ∙ h.sized;
      fits = s.1;
      is =
          h.is
          ∙ rw (decimal_step rest t, dropped ds i (48 + rest % 10) h.low (omega arith))
          (append_assoc (decimal (rest / 10)) (digit (rest % 10) ∷ []) (drop i ds));
    }

pub left_last : (l r : Line) (n rest i : ℕ) (ds : List ℕ) → rest < 10 → Left n rest i ds
    → Grown l r (take (20 - (i - 1)) (drop (i - 1) (set ds (i - 1) (48 + rest % 10)))) → Grown l r (decimal n)
left_last l r n rest i ds t h g =
    let same : rest % 10 ≡ rest = omega arith in
    let last : drop (i - 1) (set ds (i - 1) (48 + rest % 10)) ≡ decimal n =
    dropped ds i (48 + rest % 10) h.low (omega arith) ∙ ap (λ (x : ℕ). (48 + x) ∷ drop i ds) same ∙ sym (h.is ∙ rw (decimal_low rest t)) in
    let long : length (drop (i - 1) (set ds (i - 1) (48 + rest % 10))) ≤ 20 - (i - 1) = simp (length-drop, length-set) (omega arith) in
    rw (take_all (20 - (i - 1)) (drop (i - 1) (set ds (i - 1) (48 + rest % 10))) long, last) at g
