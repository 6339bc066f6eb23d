-- A number's bytes and the number that bytes hold, over the width.
-- Assumes nothing.
use Rattle.std.specs.Prelude.{ℕ, zero, suc, ◌+◌, ◌*◌, ◌/◌, ◌%◌, ◌^◌, ◌<◌, ◌≤◌, ◌≡◌, refl, List, [], ◌∷◌, ◌++◌, length, drop}
use Rattle.std.proofs.Common.{sym, ap, ◌∙◌, arith, get_or-drop, add-one}
use Rattle.std.proofs.Math.Nat.{pow-zero, pow-succ'}
use Rattle.std.proofs.Math.ListN.{get_or-append, get_or-eq_default}
use Rattle.std.proofs.Math.Seq.{drop-append_seam}
use Rattle.byte_lists.specs.Bytes.{byte_at, number_at, bytes_of}

-- Every byte is below 256.
abbrev pub Bytes : List ℕ → Type 0
Bytes s = (i : ℕ) → byte_at s i < 256

-- A number of so many bytes is below that power of 256.
pub number_below : (s : List ℕ) (at width : ℕ) → Bytes s → number_at s at width < 256 ^ width
unfolding number_at
number_below s at zero b = rw (pow-zero 256) (omega arith)
number_below s at (suc width) b = rw (pow-succ' 256 width) (omega (arith, number_below s (at + 1) width b, b at))

-- One byte more, below.
pub number_cons : (s : List ℕ) (at width : ℕ) → number_at s at (width + 1) ≡ byte_at s at + 256 * number_at s (at + 1) width
unfolding number_at
number_cons s at width = rw (add-one width)

-- One byte is its own number.
pub number_one : (s : List ℕ) (at : ℕ) → number_at s at 1 ≡ byte_at s at
unfolding number_at
number_one s at = omega arith

-- A number of a part is the number at its place in the whole.
pub number_drop : (s : List ℕ) (from at width : ℕ) → number_at (drop from s) at width ≡ number_at s (from + at) width
unfolding number_at
number_drop s from at zero = refl
number_drop s from at (suc width) =
    let e : from + (at + 1) ≡ from + at + 1 = omega arith in
    rw (get_or-drop from s at 0, number_drop s from (at + 1) width, e)

-- Past the end every number is 0.
pub number_past : (s : List ℕ) (at width : ℕ) → length s ≤ at → number_at s at width ≡ 0
unfolding number_at
number_past s at zero h = refl
number_past s at (suc width) h =
    let here = get_or-eq_default s 0 {n = at} h in
    let rest = number_past s (at + 1) width (omega arith) in
    omega arith

-- The bytes of a number hold it.
pub number_of : (width n : ℕ) (t : List ℕ) → n < 256 ^ width → number_at (bytes_of width n ++ t) 0 width ≡ n
unfolding number_at bytes_of
number_of zero n t h = omega (arith, pow-zero 256)
number_of (suc width) n t h =
    let small : n / 256 < 256 ^ width = omega (arith, pow-succ' 256 width) in
    let rest = sym (number_drop (n % 256 ∷ (bytes_of width (n / 256) ++ t)) 1 0 width) ∙ number_of width (n / 256) t small in
    omega (arith, rest)

-- The bytes at a place, `width` of them.
unfoldable pub part : List ℕ → ℕ → ℕ → List ℕ
part s at zero = []
part s at (suc width) = byte_at s at ∷ part s (at + 1) width

-- The number that bytes hold has these bytes.
pub bytes_of_lem : (s : List ℕ) (at width : ℕ) → Bytes s → bytes_of width (number_at s at width) ≡ part s at width
unfolding number_at bytes_of part
bytes_of_lem s at zero b = refl
bytes_of_lem s at (suc width) b =
    let low = b at in
    let n : ℕ = number_at s (at + 1) width in
    let first : (byte_at s at + 256 * n) % 256 ≡ byte_at s at = omega arith in
    let others : (byte_at s at + 256 * n) / 256 ≡ n = omega arith in
    rw (first, others) (ap (λ (l : List ℕ). byte_at s at ∷ l) (bytes_of_lem s (at + 1) width b))

-- Numbers in the first and in the second of two lists.
pub number_front : (xs ys : List ℕ) (at width : ℕ) → at + width ≤ length xs → number_at (xs ++ ys) at width ≡ number_at xs at width
unfolding number_at
number_front xs ys at zero h = refl
number_front xs ys at (suc width) h =
    rw (get_or-append xs ys 0 at (omega arith), number_front xs ys (at + 1) width (omega arith))

pub number_back : (xs ys : List ℕ) (at width : ℕ) → number_at (xs ++ ys) (length xs + at) width ≡ number_at ys at width
number_back xs ys at width =
    sym (number_drop (xs ++ ys) (length xs) at width) ∙ ap (λ (l : List ℕ). number_at l at width) (drop-append_seam xs ys)
