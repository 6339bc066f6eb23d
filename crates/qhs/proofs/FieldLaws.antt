-- Each case of a field's reading, as a law of its definition.
-- Assumes nothing.
use mathlib.Core.Path.{◌≡◌, refl, sym, ap, ◌∙◌}
use mathlib.Core.Bool.{Bool, true, false}
use mathlib.Core.List.{List}
use Prim.Native.Nat.{ℕ, ◌+◌, ◌-◌, ◌*◌, ◌/◌, ◌^◌, ◌<◌, ◌≤◌}
use native.Mathlib.Nat.{pow-succ', pow-le-pow_right, mul_comm, div-lt_iff_lt-mul, le-div_iff_mul-le}
use native.Mathlib.Numerals.{add-one}
use native.Mathlib.Omega.{arith}
use lib.ListN.{length}
use lib.Dec.{leb, eqb}
use borrow.Author.Tests.{le-leb, lt-leb, leb-false, eq-eqb, ne_eqb}
use Rattle.qhs.specs.declared.Layout.{Layout}
use Rattle.qhs.specs.declared.Record.{Record}
use Rattle.qhs.specs.Qhs.{marked, fields_at, record_start, record_in}
use Rattle.byte_lists.specs.Bytes.{byte_at, number_at}
use Rattle.qhs.specs.Inner.{Sound, start_in}
use Rattle.byte_lists.proofs.Digits.{number_cons, number_one, number_past}

-- ---- a number, from its last byte down

pub record Gathered (s : List ℕ) (at width n i : ℕ) : Type 0 where
  pub left : i ≤ width
  pub value : n ≡ number_at s (at + i) (width - i)
  pub below : n < 256 ^ (width - i)

pub gathered_none : (s : List ℕ) (at width : ℕ) → Gathered s at width 0 width
unfolding number_at
gathered_none s at width =
    let e : width - width ≡ 0 = omega arith in
    record { left = omega arith; value = rw e; below = rw e (omega arith) }

-- before the last byte there is room for one byte more
pub room : (s : List ℕ) (at width n i : ℕ) → Gathered s at width n i → 0 < i → width ≤ 8 → 256 * n + 255 < 18446744073709551616
room s at width n i g h w =
    let k : width - i ≤ 7 = omega arith in
    let b = g.below in
    let p : 256 ^ (width - i) ≤ 256 ^ 7 = pow-le-pow_right (omega arith) k in
    omega arith

pub gathered_next : (s : List ℕ) (at width n i b : ℕ) → Gathered s at width n i → 0 < i → b ≡ byte_at s (at + (i - 1)) → b < 256
    → Gathered s at width (256 * n + b) (i - 1)
gathered_next s at width n i b g h e small =
    let here : at + (i - 1) + 1 ≡ at + i = omega (arith, g.left) in
    let more : width - (i - 1) ≡ width - i + 1 = omega (arith, g.left) in
    let v = number_cons s (at + (i - 1)) (width - i) in
    let v' : number_at s (at + (i - 1)) (width - i + 1) ≡ byte_at s (at + (i - 1)) + 256 * number_at s (at + i) (width - i)
    = v ∙ ap (λ (x : ℕ). byte_at s (at + (i - 1)) + 256 * number_at s x (width - i)) here in
    let lo = g.below in
    let vv = g.value in
    let p : 256 ^ (width - i + 1) ≡ 256 * 256 ^ (width - i) = rw (add-one (width - i)) (pow-succ' 256 (width - i)) in
    record {
      left = omega (arith, g.left);
      value = rw more (omega arith);
      below = rw more (omega arith);
    }

-- ---- a number of 32 bits

pub word_fits : (width n : ℕ) → width ≤ 4 → n < 256 ^ width → n < 2 ^ 32
word_fits width n w h = let p : 256 ^ width ≤ 256 ^ 4 = pow-le-pow_right (omega arith) w in omega arith

-- ---- a record's start

module _ (l : Layout) (len k : ℕ) where
  pub no_header : len < l.header → len ≡ start_in l len k
  no_header h = simp (lt-leb (record_start l k) len (omega arith))

  module _ (sound : Sound l) (long : l.header ≤ len) where
    some : 0 < l.stride
    some = omega (arith, sound.stride_low)

    turned : k * l.stride ≡ l.stride * k
    turned = mul_comm k l.stride

    pub starts_past : (len - l.header) / l.stride < k → len ≡ start_in l len k
    starts_past g =
        let far = (div-lt_iff_lt-mul {k = l.stride} {x = len - l.header} {y = k} some).0 g in
        simp (lt-leb (record_start l k) len (omega (arith, far, turned)))

    module _ (g : k ≤ (len - l.header) / l.stride) where
      pub starts_in_lem : record_start l k ≤ len
      starts_in_lem = omega (arith, (le-div_iff_mul-le {k = l.stride} {x = k} {y = len - l.header} some).0 g, turned)

      pub starts_fits : l.stride * k ≤ len
      starts_fits = omega (arith, starts_in_lem)

      pub starts : record_start l k ≡ start_in l len k
      starts = simp (le-leb (record_start l k) len starts_in_lem)

-- ---- a record's fields

fields_past : (l : Layout) (s : List ℕ) (a b : ℕ) → length s ≤ a → length s ≤ b → fields_at l s a ≡ fields_at l s b
fields_past l s a b h k =
    rw (both 1 h k, same 1 1, same 2 l.cell, same l.value 4)
  where
    both : {x y : ℕ} (width : ℕ) → length s ≤ x → length s ≤ y → number_at s x width ≡ number_at s y width
    both {x} {y} width p q = number_past s x width p ∙ sym (number_past s y width q)

    same : (j width : ℕ) → number_at s (a + j) width ≡ number_at s (b + j) width
    same j width = both width (omega (arith, h)) (omega (arith, k))

fields_start : (l : Layout) (s : List ℕ) (k : ℕ) (b : Bool) → leb (record_start l k) (length s) ≡ b → fields_at l s (start_in l (length s) k) ≡ record_in l s k
unfolding record_in
fields_start l s k true e = rw e
fields_start l s k false e =
    rw e (fields_past l s (length s) (record_start l k) (omega arith) (let h = leb-false (record_start l k) (length s) e in omega arith))

module _ (l : Layout) (s : List ℕ) (k at : ℕ) (start : at ≡ start_in l (length s) k) where
  there : fields_at l s at ≡ record_in l s k
  there = ap (λ (x : ℕ). fields_at l s x) start ∙ fields_start l s k (leb (record_start l k) (length s)) refl

  pub record_there : (kind process cell value : ℕ) → kind ≡ byte_at s at → process ≡ byte_at s (at + 1) → cell ≡ number_at s (at + 2) l.cell
      → value ≡ number_at s (at + l.value) 4 → record { kind = kind; process = process; cell = cell; value = value } ≡ record_in l s k
  record_there kind process cell value a b c d =
      rw (a, b, c, d, ← number_one s at, ← number_one s (at + 1)) there

  pub kind_there : (kind : ℕ) → kind ≡ byte_at s at → kind ≡ (record_in l s k).kind
  kind_there kind e =
      e ∙ sym (number_one s at) ∙ ap (λ (r : Record). r.kind) there

-- ---- the mark

module _ (s : List ℕ) where
  pub no_q : (byte_at s 0 ≡ 81 → ⊥) → false ≡ marked s
  no_q h = simp (ne_eqb _ _ h)

  pub no_h : byte_at s 0 ≡ 81 → (byte_at s 1 ≡ 72 → ⊥) → false ≡ marked s
  no_h e h = simp (eq-eqb _ _ e, ne_eqb _ _ h)

  pub s_decides : byte_at s 0 ≡ 81 → byte_at s 1 ≡ 72 → eqb (byte_at s 2) 83 ≡ marked s
  s_decides e f = simp (eq-eqb _ _ e, eq-eqb _ _ f)
