-- What the reader accepts is written again as the same bytes, ignored fields put to zero.
-- Assumes nothing.
use Prim.Native.Nat.{ℕ, zero, suc, ◌+◌, ◌<◌, ◌≤◌}
use Rattle.std.specs.Prelude.{◌≡◌, true, ◌&&◌, List, [], ◌∷◌, ◌++◌, eqb, length, get_or, Ok}
use Rattle.std.proofs.Math.Path.{refl, ap}
use Rattle.std.proofs.Common.{sym, ◌∙◌, ⊎_elim, not-suc-le-zero, eq-or-lt_of_le, arith, length-append, eqb-true, le-leb, lt-ltb, le-ltb}
use Rattle.std.proofs.Math.ListN.{get_or-append}
use Rattle.std.proofs.lemmas.List.{get_or_at}
use Rattle.logic.specs.Truth.{and_left, and_right}
use Rattle.logic.specs.BelowLaws.{below_all}
use Rattle.logic.specs.Pick.{pick}
use Rattle.qhs.specs.declared.Header.{Header}
use Rattle.qhs.specs.Qhs.{version1, most_kind, marked, version_of, header_of, record_start, record_in, record_at, records_in, scheduled}
use Rattle.byte_lists.specs.Bytes.{byte_at, number_at, splice, bytes_of}
use Rattle.qhs.specs.Laws.{Schedule, schedule}
use Rattle.byte_lists.proofs.Digits.{Bytes, number_one, part, bytes_of_lem}
use Rattle.qhs_writer.specs.declared.Entry.{Entry}
use Rattle.qhs_writer.specs.Writer.{header_bytes, record_bytes, version, count, entry_at, mark, front_bytes, back_bytes, head_bytes}
use Rattle.qhs_writer.specs.Writer.{step_kind, write_kind, needed, entry_bytes, entries_below, file_of, known, all_known, page}
use Rattle.qhs_writer.specs.Again.{listed, fields_of, ignored_from, kept_at, zeroed_below, zeroed}
use Rattle.qhs_writer.specs.Claims.{ReadIsWritten}
use Rattle.qhs_writer.specs.Sizes.{file_length}
use Rattle.qhs_writer.specs.Outcomes.{Fine, written}

-- ---- lists by their numbers

pub listed_length : (n : ℕ) (f : ℕ → ℕ) → length (listed n f) ≡ n
unfolding listed
listed_length zero f = refl
listed_length (suc n) f = omega (arith, length-append (listed n f) (f n ∷ []), listed_length n f)

pub listed_at : (n k : ℕ) (f : ℕ → ℕ) → k < n → get_or (listed n f) k 0 ≡ f k
unfolding listed
listed_at zero k f h = absurd (not-suc-le-zero h)
listed_at (suc n) k f h =
    ⊎_elim
    (λ (e : k ≡ n). rw e (get_or_at (listed n f) (f n) [] 0 n (listed_length n f)))
    (λ (e : k < n). get_or-append (listed n f) (f n ∷ []) 0 k (rw (listed_length n f) e) ∙ listed_at n k f e)
    (eq-or-lt_of_le (omega arith))

append : {a b c d : List ℕ} → a ≡ b → c ≡ d → a ++ c ≡ b ++ d
append e f = cc

-- ---- the header

module _ (s : List ℕ) (b : Bytes s) (m : marked s ≡ true) (v : version_of s ≡ version) where
  mark_is : mark ≡ byte_at s 0 ∷ byte_at s 1 ∷ byte_at s 2 ∷ []
  mark_is =
      let rest = and_right (eqb (byte_at s 0) 81) (eqb (byte_at s 1) 72 && eqb (byte_at s 2) 83) m in
      let q = eqb-true (byte_at s 0) 81 (and_left (eqb (byte_at s 0) 81) (eqb (byte_at s 1) 72 && eqb (byte_at s 2) 83) m) in
      let h = eqb-true (byte_at s 1) 72 (and_left (eqb (byte_at s 1) 72) (eqb (byte_at s 2) 83) rest) in
      let z = eqb-true (byte_at s 2) 83 (and_right (eqb (byte_at s 1) 72) (eqb (byte_at s 2) 83) rest) in
      rw (q, h, z)

  version_bytes : bytes_of 2 version ≡ part s 3 2
  version_bytes = ap (λ (n : ℕ). bytes_of 2 n) (sym v) ∙ bytes_of_lem s 3 2 b

  head_again : head_bytes (header_of version1 s) ≡ listed header_bytes (byte_at s)
  unfolding head_bytes front_bytes back_bytes listed part
  head_again =
      append (append mark_is (append version_bytes (append (bytes_of_lem s 5 1 b) (bytes_of_lem s 6 2 b))))
      (append (bytes_of_lem s 8 4 b) (append (bytes_of_lem s 12 4 b) (bytes_of_lem s 16 8 b)))

-- ---- a record

-- the bytes that are kept, from byte j of a record on
unfoldable kept_from : List ℕ → ℕ → ℕ → ℕ → List ℕ
kept_from s at j zero = []
kept_from s at j (suc width) = kept_at s at j ∷ kept_from s at (j + 1) width

needed_part : (s : List ℕ) (at j width : ℕ) → j + width ≤ ignored_from (byte_at s at) → part s (at + j) width ≡ kept_from s at j width
unfolding part kept_from
needed_part s at j zero h = refl
needed_part s at j (suc width) h =
    let here : j < ignored_from (byte_at s at) = omega arith in
    let next : at + j + 1 ≡ at + (j + 1) = omega arith in
    rw (lt-ltb _ _ here, next) (ap (λ (l : List ℕ). byte_at s (at + j) ∷ l) (needed_part s at (j + 1) width (omega arith)))

ignored_part : (s : List ℕ) (at j width : ℕ) → ignored_from (byte_at s at) ≤ j → bytes_of width 0 ≡ kept_from s at j width
unfolding bytes_of kept_from
ignored_part s at j zero h = refl
ignored_part s at j (suc width) h =
    rw (le-ltb _ _ h) (ap (λ (l : List ℕ). 0 ∷ l) (ignored_part s at (j + 1) width (omega arith)))

abbrev entry_in : List ℕ → ℕ → Entry
entry_in s at = record { kind = number_at s at 1; process = number_at s (at + 1) 1; cell = number_at s (at + 2) 2; value = number_at s (at + 4) 4 }

module _ (s : List ℕ) (at : ℕ) (b : Bytes s) where
  number_again : (j width : ℕ) → j + width ≤ ignored_from (byte_at s at) → bytes_of width (number_at s (at + j) width) ≡ kept_from s at j width
  number_again j width h = bytes_of_lem s (at + j) width b ∙ needed_part s at j width h

  entry_again : (e : Entry) → e.kind ≡ number_at s (at + 0) 1 → e.process ≡ number_at s (at + 1) 1 → 2 ≤ ignored_from (byte_at s at)
      → bytes_of 2 e.cell ≡ kept_from s at 2 2 → bytes_of 4 e.value ≡ kept_from s at 4 4 → entry_bytes e ≡ listed record_bytes (kept_at s at)
  unfolding entry_bytes listed kept_from
  entry_again e k p h c v =
      append (ap (λ (n : ℕ). bytes_of 1 n) k ∙ number_again 0 1 (omega arith))
      (append (ap (λ (n : ℕ). bytes_of 1 n) p ∙ number_again 1 1 (omega arith)) (append c v))

  record_again : byte_at s at ≤ most_kind → entry_bytes (needed (entry_in s at)) ≡ listed record_bytes (kept_at s at)
  record_again low = by (byte_at s at) refl low
    where
      zero_at : at ≡ at + 0
      zero_at = omega arith

      cell_of : ℕ → ℕ
      cell_of kind = pick (eqb kind step_kind) 0 (number_at s (at + 2) 2)

      value_of : ℕ → ℕ
      value_of kind = pick (eqb kind write_kind) (number_at s (at + 4) 4) 0

      with_kind : (kind : ℕ) → byte_at s at ≡ kind → 2 ≤ ignored_from kind → bytes_of 2 (cell_of kind) ≡ kept_from s at 2 2
          → bytes_of 4 (value_of kind) ≡ kept_from s at 4 4 → entry_bytes (needed (entry_in s at)) ≡ listed record_bytes (kept_at s at)
      with_kind kind e h c v =
          let is : number_at s at 1 ≡ kind = number_one s at ∙ e in
          entry_again (needed (entry_in s at)) (ap (λ (x : ℕ). number_at s x 1) zero_at) refl (rw e h) (rw is c) (rw is v)

      by : (kind : ℕ) → byte_at s at ≡ kind → kind ≤ most_kind → entry_bytes (needed (entry_in s at)) ≡ listed record_bytes (kept_at s at)
      by zero e l = with_kind 0 e (omega arith) (ignored_part s at 2 2 (rw e (omega arith))) (ignored_part s at 4 4 (rw e (omega arith)))
      by (suc zero) e l = with_kind 1 e (omega arith) (number_again 2 2 (rw e (omega arith))) (ignored_part s at 4 4 (rw e (omega arith)))
      by (suc (suc zero)) e l = with_kind 2 e (omega arith) (number_again 2 2 (rw e (omega arith))) (number_again 4 4 (rw e (omega arith)))
      by (suc (suc (suc zero))) e l = with_kind 3 e (omega arith) (number_again 2 2 (rw e (omega arith))) (ignored_part s at 4 4 (rw e (omega arith)))
      by (suc (suc (suc (suc kind)))) e l = absurd (let x : ⊥ = omega arith in x)

-- ---- the records

module _ (s : List ℕ) (n : ℕ) (b : Bytes s) where
  entry_is : (k : ℕ) → k < n → entry_at (fields_of s n) k ≡ entry_in s (record_start version1 k)
  unfolding record_in
  entry_is k h =
      rw (
        listed_at n k (λ i. (record_at s i).kind) h,
        listed_at n k (λ i. (record_at s i).process) h,
        listed_at n k (λ i. (record_at s i).cell) h,
        listed_at n k (λ i. (record_at s i).value) h,
      )

  module _ (kinds : (k : ℕ) → k < n → byte_at s (record_start version1 k) ≤ most_kind) where
    records_again : (k : ℕ) → k ≤ n → entries_below (fields_of s n) k ≡ zeroed_below s k
    unfolding entries_below zeroed_below
    records_again zero h = refl
    records_again (suc k) h =
        append (records_again k (omega arith))
        (ap (λ (e : Entry). entry_bytes (needed e)) (entry_is k (omega arith)) ∙ record_again s (record_start version1 k) b (kinds k (omega arith)))

many : (s : List ℕ) (n : ℕ) → count (fields_of s n) ≡ n
many s n =
    omega (
      arith,
      listed_length n (λ k. (record_at s k).kind),
      listed_length n (λ k. (record_at s k).process),
      listed_length n (λ k. (record_at s k).cell),
      listed_length n (λ k. (record_at s k).value),
    )

-- ---- the whole file

module _ (s : List ℕ) (h : Header) (n : ℕ) (b : Bytes s) (g : Schedule version1 s h n) where
  kind_low : (k : ℕ) → k < n → byte_at s (record_start version1 k) ≤ most_kind
  unfolding record_in
  kind_low k l = rw (number_one s (record_start version1 k)) at (g.kinds k l)

  same : file_of h (fields_of s n) ≡ zeroed s
  unfolding file_of zeroed
  same =
      let all : records_in version1 s ≡ n = omega (arith, g.bytes) in
      append (ap head_bytes g.header ∙ head_again s b g.mark g.version_is)
      (ap (λ (k : ℕ). entries_below (fields_of s n) k) (many s n) ∙ records_again s n b kind_low n (omega arith) ∙ ap (λ (k : ℕ). zeroed_below s k) (sym all))

  long : length (file_of h (fields_of s n)) ≡ length s
  long = omega (arith, file_length h (fields_of s n), many s n, g.bytes)

  all_known_lem : all_known (fields_of s n) ≡ true
  all_known_lem =
      below_all (count (fields_of s n)) (known (fields_of s n).kinds)
      (λ k l.
      let low : k < n = omega (arith, many s n) in
      rw (listed_at n k (λ i. (record_at s i).kind) low) (le-leb _ _ (g.kinds k low)))

  is_fine : (out : List ℕ) → length s ≤ length out → Fine h (fields_of s n) out
  is_fine out room = record {
    fits = omega (arith, long, g.bytes_high);
    few = g.m_few;
    known = all_known_lem;
    counts = g.counts;
    room = omega (arith, long);
  }

pub what_is_read_is_written_again : ReadIsWritten
what_is_read_is_written_again s h n out b e room =
    let g = schedule s (scheduled h n) h n (sym e) refl in
    written h (fields_of s n) out (is_fine s h n b g out room)
    ∙ ap (λ (k : ℕ). page (Ok k) (splice out 0 (file_of h (fields_of s n)))) (long s h n b g)
    ∙ ap (λ (l : List ℕ). page (Ok (length s)) (splice out 0 l)) (same s h n b g)
