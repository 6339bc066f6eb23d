-- Bytes laid into the buffer one after the other: a number, the header, a record, the records.
-- Assumes nothing.
use Rattle.std.specs.Prelude.{Option}
use Prim.Native.Nat.{ℕ, zero, suc, ◌+◌, ◌*◌, ◌/◌, ◌%◌, ◌<◌, ◌≤◌}
use mathlib.Core.Path.{◌≡◌, refl, sym, ap, ◌∙◌}
use mathlib.Core.List.{List, [], ◌∷◌, ◌++◌}
use native.Mathlib.Omega.{arith}
use native.Mathlib.Numerals.{add-one}
use lib.ListN.{length, set, length-append, length-set}
use lib.Seq.{set_split}
use borrow.Author.Tests.{eq-eqb, ne_eqb}
use Rattle.qhs.specs.declared.Header.{Header}
use Rattle.byte_lists.specs.Bytes.{splice, placed, put_of, end_of, bytes_of}
use Rattle.byte_lists.specs.Places.{put_end, splice_none, splice_length, splice_more}
use Rattle.qhs_writer.specs.declared.Entry.{Entry}
use Rattle.qhs_writer.specs.Writer.{header_bytes, record_bytes, version, Fields, entry_at, mark, front_bytes, back_bytes}
use Rattle.qhs_writer.specs.Writer.{head_bytes, step_kind, write_kind, needed, entry_bytes, entries_below}
use Rattle.qhs_writer.specs.Inner.{Laid, Within}

laid_none : (out : List ℕ) (at : ℕ) → Laid out at 0 [] out at
laid_none out at = record { is = refl; ends = omega arith; shows = sym (splice_none out at); sized = refl }

laid_byte : (out : List ℕ) (at b : ℕ) → at < length out → Laid out at 1 (b ∷ []) (set out at b) (at + 1)
unfolding splice
laid_byte out at b h =
    record { is = refl; ends = refl; shows = rw (add-one at) (set_split out at b h); sized = length-set out at b }

pub laid_then : (out o o' xs ys : List ℕ) (at x y a b : ℕ) → at + x ≤ length out → Laid out at x xs o a → Laid o a y ys o' b
    → Laid out at (x + y) (xs ++ ys) o' b
laid_then out o o' xs ys at x y a b h l k =
    let here : a ≡ at + length xs = omega (arith, l.ends, l.is) in
    let room : at + length xs ≤ length out = omega (arith, l.is) in
    record {
      is = omega (arith, l.is, k.is, length-append xs ys);
      ends = omega (arith, l.ends, k.ends);
      shows = k.shows ∙ rw (l.shows, here) (splice_more out xs ys at room);
      sized = k.sized ∙ l.sized;
    }

-- ---- a number, from its lowest byte up

-- what is left of a number without its lowest i bytes
unfoldable pub left : ℕ → ℕ → ℕ
left zero n = n
left (suc i) n = left i n / 256

left_first : (i n : ℕ) → left i (n / 256) ≡ left i n / 256
unfolding left
left_first zero n = refl
left_first (suc i) n = ap (λ (k : ℕ). k / 256) (left_first i n)

bytes_more : (i n : ℕ) → bytes_of (suc i) n ≡ bytes_of i n ++ (left i n % 256 ∷ [])
unfolding bytes_of left
bytes_more zero n = refl
bytes_more (suc i) n = ap (λ (l : List ℕ). n % 256 ∷ l) (bytes_more i (n / 256) ∙ rw (left_first i n))

pub record Numbered (out₀ : List ℕ) (at width n : ℕ) (out : List ℕ) (rest i : ℕ) : Type 0 where
  pub low : i ≤ width
  pub room : at + width ≤ length out₀
  pub over : rest ≡ left i n
  pub laid : Laid out₀ at i (bytes_of i n) out (at + i)

pub numbered_none : (out : List ℕ) (at width n : ℕ) → at + width ≤ length out → Numbered out at width n out n 0
unfolding bytes_of left
numbered_none out at width n h = record { low = omega arith; room = h; over = refl; laid = let e : at + 0 ≡ at = omega arith in rw e (laid_none out at) }

module _ (out₀ : List ℕ) (at width n : ℕ) (out : List ℕ) (rest i : ℕ) (g : Numbered out₀ at width n out rest i) where
  pub numbered_next : (b : ℕ) → i < width → b ≡ rest % 256 → Numbered out₀ at width n (set out (at + i) b) (rest / 256) (i + 1)
  unfolding left
  numbered_next b h e =
      let fits : at + i < length out = omega (arith, g.room, g.laid.sized) in
      let far : at + i + 1 ≡ at + (i + 1) = omega arith in
      let byte : b ≡ left i n % 256 = e ∙ ap (λ (k : ℕ). k % 256) g.over in
      let more : bytes_of (i + 1) n ≡ bytes_of i n ++ (b ∷ []) = rw (add-one i, byte) (bytes_more i n) in
      record {
        low = omega arith;
        room = g.room;
        over = rw (add-one i) (ap (λ (k : ℕ). k / 256) g.over);
        laid =
            rw (more, ← far)
            (laid_then out₀ out (set out (at + i) b) (bytes_of i n) (b ∷ []) at i 1 (at + i) (at + i + 1) (omega (arith, g.room)) g.laid
            (laid_byte out (at + i) b fits));
      }

  pub numbered_all : width ≤ i → Laid out₀ at width (bytes_of width n) out (at + width)
  numbered_all h = let e : i ≡ width = omega (arith, g.low) in rw e at g.laid

-- ---- the header

pub mark_laid : (out o : List ℕ) (p : Option ℕ) (a : ℕ) → header_bytes ≤ length out → placed p o ≡ put_of out 0 mark → a ≡ end_of p → Laid out 0 3 mark o a
mark_laid out o p a h e f =
    let both = put_end p out o mark 0 (omega arith) e in
    record { is = refl; ends = f ∙ both.0; shows = both.1; sized = ap length both.1 ∙ splice_length out mark 0 (omega arith) }

pub front_laid : (h : Header) (out oa ob oc od : List ℕ) (a b c d : ℕ) → header_bytes ≤ length out → Laid out 0 3 mark oa a
    → Laid oa a 2 (bytes_of 2 version) ob b → Laid ob b 1 (bytes_of 1 h.p) oc c → Laid oc c 2 (bytes_of 2 h.m) od d → Laid out 0 8 (front_bytes h) od d
unfolding front_bytes
front_laid h out oa ob oc od a b c d room la lb lc ld =
    laid_then out oa od mark _ 0 3 5 a d (omega arith) la
    (laid_then oa ob od (bytes_of 2 version) _ a 2 3 b d (omega arith) lb
    (laid_then ob oc od (bytes_of 1 h.p) (bytes_of 2 h.m) b 1 2 c d (omega arith) lc ld))

pub back_laid : (h : Header) (out oa ob oc : List ℕ) (at a b c : ℕ) → at + 16 ≤ length out → Laid out at 4 (bytes_of 4 h.first) oa a
    → Laid oa a 4 (bytes_of 4 h.step) ob b → Laid ob b 8 (bytes_of 8 h.fill) oc c → Laid out at 16 (back_bytes h) oc c
unfolding back_bytes
back_laid h out oa ob oc at a b c room la lb lc =
    laid_then out oa oc (bytes_of 4 h.first) _ at 4 12 a c (omega arith) la
    (laid_then oa ob oc (bytes_of 4 h.step) (bytes_of 8 h.fill) a 4 8 b c (omega arith) lb lc)

pub header_laid : (h : Header) (out oa ob : List ℕ) (a b : ℕ) → header_bytes ≤ length out → Laid out 0 8 (front_bytes h) oa a → Laid oa a 16 (back_bytes h) ob b
    → Laid out 0 header_bytes (head_bytes h) ob b
unfolding head_bytes
header_laid h out oa ob a b room la lb = laid_then out oa ob (front_bytes h) (back_bytes h) 0 8 16 a b (omega arith) la lb

-- ---- a record

module _ (e : Entry) where
  pub needed_write : e.kind ≡ write_kind → e ≡ needed e
  needed_write h = let z : (e.kind ≡ step_kind → ⊥) = λ k. omega (arith, h, k) in simp (eq-eqb _ _ h, ne_eqb _ _ z)

  module _ (other : e.kind ≡ write_kind → ⊥) where
    pub needed_step : e.kind ≡ step_kind → record { kind = e.kind; process = e.process; cell = 0; value = 0 } ≡ needed e
    needed_step h = simp (eq-eqb _ _ h, ne_eqb _ _ other)

    pub needed_cell : (e.kind ≡ step_kind → ⊥) → record { kind = e.kind; process = e.process; cell = e.cell; value = 0 } ≡ needed e
    needed_cell h = simp (ne_eqb _ _ h, ne_eqb _ _ other)

pub entry_laid : (e : Entry) (out oa ob oc od : List ℕ) (at a b c d : ℕ) → at + record_bytes ≤ length out → Laid out at 1 (bytes_of 1 e.kind) oa a
    → Laid oa a 1 (bytes_of 1 e.process) ob b → Laid ob b 2 (bytes_of 2 e.cell) oc c → Laid oc c 4 (bytes_of 4 e.value) od d
    → Laid out at record_bytes (entry_bytes e) od d
unfolding entry_bytes
entry_laid e out oa ob oc od at a b c d room la lb lc ld =
    laid_then out oa od (bytes_of 1 e.kind) _ at 1 7 a d (omega arith) la
    (laid_then oa ob od (bytes_of 1 e.process) _ a 1 6 b d (omega arith) lb
    (laid_then ob oc od (bytes_of 2 e.cell) (bytes_of 4 e.value) b 2 4 c d (omega arith) lc ld))

-- ---- the records

pub record Laying (f : Fields) (n start : ℕ) (out₀ out : List ℕ) (at k : ℕ) : Type 0 where
  pub low : k ≤ n
  pub room : start + record_bytes * n ≤ length out₀
  pub laid : Laid out₀ start (record_bytes * k) (entries_below f k) out at

entries_more : (f : Fields) (k : ℕ) → entries_below f (k + 1) ≡ entries_below f k ++ entry_bytes (needed (entry_at f k))
unfolding entries_below
entries_more f k = rw (add-one k)

pub laying_none : (f : Fields) (n start : ℕ) (out : List ℕ) → Within f n start out → Laying f n start out out start 0
unfolding entries_below
laying_none f n start out h = record { low = omega arith; room = h.room; laid = laid_none out start }

module _ (f : Fields) (n start : ℕ) (out₀ out : List ℕ) (at k : ℕ) (g : Laying f n start out₀ out at k) where
  pub laying_room : k < n → at + record_bytes ≤ length out
  laying_room h = omega (arith, g.room, g.laid.ends, g.laid.sized)

  pub laying_next : (e : Entry) (o : List ℕ) (a : ℕ) → k < n → e ≡ needed (entry_at f k) → Laid out at record_bytes (entry_bytes e) o a
      → Laying f n start out₀ o a (k + 1)
  laying_next e o a h is l =
      let eight : record_bytes * (k + 1) ≡ record_bytes * k + record_bytes = omega arith in
      let more : entries_below f (k + 1) ≡ entries_below f k ++ entry_bytes e = entries_more f k ∙ rw is in
      record {
        low = omega arith;
        room = g.room;
        laid =
            rw (more, eight)
            (laid_then out₀ out o (entries_below f k) (entry_bytes e) start (record_bytes * k) record_bytes at a (omega (arith, g.room)) g.laid l);
      }

  pub laying_all : n ≤ k → Laid out₀ start (record_bytes * n) (entries_below f n) out at
  laying_all h = let e : k ≡ n = omega (arith, g.low) in rw e at g.laid
