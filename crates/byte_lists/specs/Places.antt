-- Laws of bytes put into a buffer.
-- Assumes nothing.
use Rattle.std.specs.Prelude.{ℕ, ◌+◌, ◌≤◌, ◌≡◌, List, [], ◌++◌, length, take, drop, Option, Some}
use Rattle.std.proofs.Common.{sym, ap, ◌∙◌, append_assoc, arith, length-append, length-drop, take-append-drop, take_at, drop-drop, length-take-le, le-leb}
use Rattle.std.proofs.Math.Seq.{drop-append-add}
use Rattle.byte_lists.specs.Bytes.{splice, Placed, placed, put_of, end_of}

-- Bytes that fit are put.
pub put_fits : (out bytes : List ℕ) (at : ℕ) → at + length bytes ≤ length out
    → put_of out at bytes ≡ placed (Some (at + length bytes)) (splice out at bytes)
unfolding put_of
put_fits out bytes at h = simp (le-leb _ _ h)

-- What was put where there was room.
pub put_end : (p : Option ℕ) (out written bytes : List ℕ) (at : ℕ) → at + length bytes ≤ length out → placed p written ≡ put_of out at bytes
    → (end_of p ≡ at + length bytes) × (written ≡ splice out at bytes)
put_end p out written bytes at h e =
    let is : placed p written ≡ placed (Some (at + length bytes)) (splice out at bytes) = e ∙ put_fits out bytes at h in
    (ap (λ (x : Placed). end_of x.answer) is, ap (λ (x : Placed). x.out) is)

-- Nothing put changes nothing.
pub splice_none : (out : List ℕ) (at : ℕ) → splice out at [] ≡ out
unfolding splice
splice_none out at = let e : at + 0 ≡ at = omega arith in rw e (take-append-drop at out)

pub splice_length : (out bytes : List ℕ) (at : ℕ) → at + length bytes ≤ length out → length (splice out at bytes) ≡ length out
unfolding splice
splice_length out bytes at h =
    let front = length-take-le at out (omega arith) in
    let back = length-drop (at + length bytes) out in
    let inner = length-append bytes (drop (at + length bytes) out) in
    let all = length-append (take at out) (bytes ++ drop (at + length bytes) out) in
    omega arith

-- Bytes put right after others are put with them.
pub splice_more : (out xs ys : List ℕ) (at : ℕ) → at + length xs ≤ length out
    → splice (splice out at xs) (at + length xs) ys ≡ splice out at (xs ++ ys)
unfolding splice
splice_more out xs ys at h =
    let front : List ℕ = take at out ++ xs in
    let back : List ℕ = drop (at + length xs) out in
    let long : length front ≡ at + length xs =
    length-append (take at out) xs ∙ ap (λ (k : ℕ). k + length xs) (length-take-le at out (omega arith)) in
    let join : take at out ++ (xs ++ back) ≡ front ++ back = sym (append_assoc (take at out) xs back) in
    let far : at + length xs + length ys ≡ at + length (xs ++ ys) = omega (arith, length-append xs ys) in
    let dropped : drop (at + length xs + length ys) (front ++ back) ≡ drop (at + length (xs ++ ys)) out =
    ap (λ (k : ℕ). drop (k + length ys) (front ++ back)) (sym long)
    ∙ drop-append-add front back (length ys)
    ∙ drop-drop (length ys) (at + length xs) out
    ∙ ap (λ (k : ℕ). drop k out) far in
    rw (join, take_at front back (at + length xs) long, dropped)
    (append_assoc (take at out) xs (ys ++ drop (at + length (xs ++ ys)) out)
    ∙ ap (λ (l : List ℕ). take at out ++ l) (sym (append_assoc xs ys (drop (at + length (xs ++ ys)) out))))
