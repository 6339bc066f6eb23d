-- What callers may use of segments and links in place of the definitions' text.
-- Assumes nothing.
use Rattle.std.specs.Prelude.{◌≡◌, ℕ, zero, suc, ◌+◌, ◌-◌, ◌%◌, ◌^◌, ◌<◌, ◌≤◌, refl}
use Rattle.std.proofs.Common.{sym, ap, ◌∙◌, arith, add-one, pow_pos, pow_mono}
use Rattle.numbers.specs.Numbers.{most_cells, most_segments, most_marks, segment_of, offset_of, size_of, sizes_below}
use Rattle.numbers.specs.Numbers.{link_processes, link_places, link_of, process_of, place_of}
use Rattle.numbers.proofs.Logs.{double, double_next, segment_at, segment_around, segment_below}

-- ---- segments

-- A place plus 2 lies between the powers of its segment.
pub segment_bounds : (n : ℕ) → (2 ^ (segment_of n + 1) ≤ n + 2) × (n + 2 < 2 ^ (segment_of n + 2))
segment_bounds n = let a = segment_around n in (a.low, a.high)

-- The offset is below the segment's size.
pub offset_below : (n : ℕ) → offset_of n < size_of (segment_of n)
unfolding offset_of size_of
offset_below n =
    let b = segment_bounds n in
    let two = double_next (segment_of n) in
    omega arith

-- The segments before it hold 2^(s+1) − 2 places.
pub place_at : (n : ℕ) → n ≡ 2 ^ (segment_of n + 1) - 2 + offset_of n
unfolding offset_of
place_at n =
    let b = segment_bounds n in
    let one = double (segment_of n) in
    let pos = pow_pos (segment_of n) in
    omega arith

-- Segment and offset are the only such pair.
pub only_pair : (n s o : ℕ) → o < size_of s → n ≡ 2 ^ (s + 1) - 2 + o → (segment_of n ≡ s) × (offset_of n ≡ o)
unfolding offset_of size_of
only_pair n s o inside here =
    let one = double s in
    let two = double_next s in
    let pos = pow_pos s in
    let e : segment_of n ≡ s = segment_at n s (omega arith) (omega arith) in
    (e, rw e (omega arith))

-- Every segment has at least two places.
pub size_two : (s : ℕ) → 2 ≤ size_of s
unfolding size_of
size_two s =
    let one = double s in
    let pos = pow_pos s in
    omega arith

-- A segment below the k-th has at most 2^k words, so its size fits a word where k is 63 or less.
pub size_most : (s k : ℕ) → s < k → size_of s ≤ 2 ^ k
unfolding size_of
size_most s k h = let e : s + 1 ≤ k = omega arith in pow_mono e

pub size_least : (s k : ℕ) → k ≤ s → 2 ^ (k + 1) ≤ size_of s
unfolding size_of
size_least s k h = let e : k + 1 ≤ s + 1 = omega arith in pow_mono e

pub size_word : (s : ℕ) → s < 63 → size_of s % 2 ^ 64 ≡ size_of s
size_word s h = omega (arith, size_most s 63 h)

-- The segments below s hold 2^(s+1) − 2 words together.
pub sizes_below_lem : (s : ℕ) → sizes_below s ≡ 2 ^ (s + 1) - 2
unfolding sizes_below size_of
sizes_below_lem zero = refl
sizes_below_lem (suc s) =
    let h = sizes_below_lem s in
    let one = double s in
    let two = double (suc s) in
    let pos = pow_pos s in
    let e : suc s ≡ s + 1 = sym (add-one s) in
    let p = ap (λ (k : ℕ). 2 ^ k) e in
    omega arith

-- The sizes of segments 0 to s sum to 2^(s+2) − 2.
pub sizes_sum : (s : ℕ) → sizes_below (s + 1) ≡ 2 ^ (s + 2) - 2
sizes_sum s = let e : s + 1 + 1 ≡ s + 2 = omega arith in sizes_below_lem (s + 1) ∙ ap (λ (k : ℕ). 2 ^ k - 2) e

-- A later place lies in no earlier segment.
pub segment_monotone : (a b : ℕ) → a ≤ b → segment_of a ≤ segment_of b
segment_monotone a b h =
    let e : segment_of b + 1 + 1 ≡ segment_of b + 2 = omega arith in
    let hi : a + 2 < 2 ^ (segment_of b + 1 + 1) = rw e (omega (arith, segment_bounds b)) in
    omega (arith, segment_below a (segment_of b + 1) hi)

-- The next place lies in the same segment or in the next.
pub segment_next : (n : ℕ) → segment_of (n + 1) ≤ segment_of n + 1
segment_next n =
    let up = double (segment_of n + 2) in
    omega (arith, segment_bounds n, segment_below (n + 1) (segment_of n + 2) (omega (arith, segment_bounds n)))

-- A place up to 2m + 1 lies in one of a lane's segments.
pub segment_few : (m n : ℕ) → m ≤ most_cells → n ≤ most_marks m → segment_of n < most_segments
segment_few m n few h = segment_below n most_segments (omega arith)

-- A place of 64 bits lies in one of 64 segments.
pub segment_word : (n : ℕ) → n < 2 ^ 64 → segment_of n < 64
segment_word n h = segment_below n 64 (omega arith)

-- ---- links

-- A link of 64 bits names a process of 14 bits and a place of 50.
pub process_below : (w : ℕ) → w < 2 ^ 64 → process_of w < link_processes
process_below w h = omega arith

pub place_below : (w : ℕ) → place_of w < link_places
place_below w = omega arith

-- A link fits 64 bits, whatever it is made from.
pub link_below : (q n : ℕ) → link_of q n < 2 ^ 64
link_below q n = omega arith

-- A link gives its process and its place back.
pub process_link : (q n : ℕ) → q < link_processes → n < link_places → process_of (link_of q n) ≡ q
process_link q n hq hn = omega arith

pub place_link : (q n : ℕ) → q < link_processes → n < link_places → place_of (link_of q n) ≡ n
place_link q n hq hn = omega arith

-- Every 64-bit word is the link of exactly one pair.
pub link_back : (w : ℕ) → w < 2 ^ 64 → link_of (process_of w) (place_of w) ≡ w
link_back w h = omega arith

-- A link determines its process and its place.
pub link_injective : (q n q' n' : ℕ) → q < link_processes → n < link_places → q' < link_processes → n' < link_places
    → link_of q n ≡ link_of q' n' → (q ≡ q') × (n ≡ n')
link_injective q n q' n' hq hn hq' hn' e = (omega arith, omega arith)
