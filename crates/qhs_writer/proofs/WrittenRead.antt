-- What the writer writes, the reader accepts and gives back, ignored fields as zero.
-- Assumes nothing.
use Prim.Native.Nat.{ℕ, zero, suc, ◌+◌, ◌%◌, ◌^◌, ◌<◌, ◌≤◌}
use Rattle.std.specs.Prelude.{◌≡◌, refl, Bool, true, false, eqb, length}
use Rattle.std.proofs.Math.Path.{sym}
use Rattle.std.proofs.Common.{ap, ◌∙◌, ⊎_elim, not-suc-le-zero, eq-or-lt_of_le, arith, length-append, le-ltb, le-leb, leb-true, eq-eqb}
use mathlib.Core.List.{List, [], ◌++◌, append_assoc}
use Rattle.numbers.specs.Numbers.{most_processes}
use Rattle.logic.specs.BelowLaws.{below_all, below_at}
use Rattle.logic.specs.Pick.{pick}
use Rattle.qhs.specs.declared.Header.{Header}
use Rattle.qhs.specs.Qhs.{version1, most_file_cells, most_kind, marked, version_of, header_of, fields_at, record_start, scheduled}
use Rattle.qhs.specs.Qhs.{record_in, record_at, body_bytes, records_in, kind_fits, kinds_fit, read_in, read_of}
use Rattle.byte_lists.specs.Bytes.{number_at, bytes_of}
use Rattle.qhs.specs.Laws.{Words, Counted, Schedule}
use Rattle.qhs_writer.specs.declared.Entry.{Entry}
use Rattle.qhs_writer.specs.Writer.{header_bytes, record_bytes, version, Fields, count, entry_at, front_bytes, back_bytes}
use Rattle.qhs_writer.specs.Writer.{head_bytes, step_kind, write_kind, needed, entry_bytes, entries_below, file_of, known}
use Rattle.qhs_writer.specs.Again.{read_as}
use Rattle.qhs_writer.specs.Claims.{Typed, WrittenIsRead}
use Rattle.qhs_writer.specs.Sizes.{head_length, entries_length, file_length}
use Rattle.byte_lists.proofs.Digits.{number_of, number_front, number_back}
use Rattle.qhs_writer.specs.Outcomes.{Fine, fine, file_is}

-- ---- a record

-- a record's numbers fit the bytes that they are given
record Fits (e : Entry) : Type 0 where
  kind : e.kind < 256 ^ 1
  process : e.process < 256 ^ 1
  cell : e.cell < 256 ^ 2
  value : e.value < 256 ^ 4

fields_are : (e : Entry) → Fits e → fields_at version1 (entry_bytes e) 0 ≡ read_as e
unfolding number_at bytes_of entry_bytes
fields_are e w =
    let a : number_at (entry_bytes e) 0 1 ≡ e.kind = number_of 1 e.kind (bytes_of 1 e.process ++ (bytes_of 2 e.cell ++ bytes_of 4 e.value)) w.kind in
    let b : number_at (entry_bytes e) 1 1 ≡ e.process = number_of 1 e.process (bytes_of 2 e.cell ++ bytes_of 4 e.value) w.process in
    let c : number_at (entry_bytes e) 2 2 ≡ e.cell = number_of 2 e.cell (bytes_of 4 e.value) w.cell in
    let d : number_at (entry_bytes e) 4 4 ≡ e.value = number_of 4 e.value [] w.value in
    rw (a, b, c, d)

-- ---- a record at its place

fields_front : (xs ys : List ℕ) (at : ℕ) → at + record_bytes ≤ length xs → fields_at version1 (xs ++ ys) at ≡ fields_at version1 xs at
fields_front xs ys at h =
    rw (
      number_front xs ys at 1 (omega arith),
      number_front xs ys (at + 1) 1 (omega arith),
      number_front xs ys (at + 2) 2 (omega arith),
      number_front xs ys (at + 4) 4 (omega arith),
    )

fields_back : (xs ys : List ℕ) (at : ℕ) → at ≡ length xs → fields_at version1 (xs ++ ys) at ≡ fields_at version1 ys 0
fields_back xs ys at e =
    let z : length xs + 0 ≡ length xs = omega arith in
    let a : number_at (xs ++ ys) at 1 ≡ number_at ys 0 1 = rw (e, ← z) (number_back xs ys 0 1) in
    rw (a, e) (rw (number_back xs ys 1 1, number_back xs ys 2 2, number_back xs ys 4 4))

module _ (h : Header) (f : Fields) where
  abbrev up_to : ℕ → List ℕ
  up_to n = head_bytes h ++ entries_below f n

  up_length : (n : ℕ) → length (up_to n) ≡ record_start version1 n
  up_length n = omega (arith, length-append (head_bytes h) (entries_below f n), head_length h, entries_length f n)

  entry_there : (n k : ℕ) → k < n → fields_at version1 (up_to n) (record_start version1 k) ≡ fields_at version1 (entry_bytes (needed (entry_at f k))) 0
  unfolding entries_below
  entry_there zero k l = absurd (not-suc-le-zero l)
  entry_there (suc n) k l =
      rw (← append_assoc (head_bytes h) (entries_below f n) (entry_bytes (needed (entry_at f n))))
      (⊎_elim
      (λ (e : k ≡ n). rw e (fields_back (up_to n) (entry_bytes (needed (entry_at f n))) (record_start version1 n) (sym (up_length n))))
      (λ (e : k < n).
      fields_front (up_to n) (entry_bytes (needed (entry_at f n))) (record_start version1 k) (omega (arith, up_length n))
      ∙ entry_there n k e)
      (eq-or-lt_of_le (omega arith)))

-- ---- the header

module _ (h : Header) (w : Words h) (p_high : h.p ≤ most_processes) (m_high : h.m ≤ most_file_cells) (t : List ℕ) where
  header_is : header_of version1 (head_bytes h ++ t) ≡ h
  unfolding number_at bytes_of head_bytes front_bytes back_bytes
  header_is =
      let p_is : number_at (head_bytes h ++ t) 5 1 ≡ h.p = number_of 1 h.p t (omega arith) in
      let m_is : number_at (head_bytes h ++ t) 6 2 ≡ h.m = number_of 2 h.m t (omega arith) in
      let first_is : number_at (head_bytes h ++ t) 8 4 ≡ h.first = number_of 4 h.first t w.first_fits in
      let step_is : number_at (head_bytes h ++ t) 12 4 ≡ h.step = number_of 4 h.step t w.step_fits in
      let fill_is : number_at (head_bytes h ++ t) 16 8 ≡ h.fill = number_of 8 h.fill t w.fill_fits in
      rw (p_is, m_is, first_is, step_is, fill_is)

head_marked : (h : Header) (t : List ℕ) → marked (head_bytes h ++ t) ≡ true
unfolding bytes_of head_bytes front_bytes back_bytes
head_marked h t = refl

head_version : (h : Header) (t : List ℕ) → version_of (head_bytes h ++ t) ≡ version
unfolding number_at bytes_of head_bytes front_bytes back_bytes
head_version h t = refl

-- ---- the whole file

-- nothing in a schedule's bytes speaks against it
accepts : (s : List ℕ) (h : Header) (n : ℕ) → Schedule version1 s h n → read_of s ≡ scheduled h n
unfolding read_of read_in
accepts s h n g =
    let whole : body_bytes version1 s % record_bytes ≡ 0 = omega (arith, g.bytes) in
    let many : records_in version1 s ≡ n = omega (arith, g.bytes) in
    let begins : header_bytes ≤ length s = omega (arith, g.bytes) in
    let q : Counted (header_of version1 s).p (header_of version1 s).m = rw g.header at g.counts in
    let few : (header_of version1 s).m ≤ most_file_cells = rw g.header at g.m_few in
    let known : kinds_fit version1 s ≡ true =
    below_all (records_in version1 s) (kind_fits version1 s) (λ k l. le-leb _ _ (g.kinds k (omega (arith, many, l)))) in
    let read : read_of s ≡ scheduled (header_of version1 s) (records_in version1 s) =
    simp (
      le-ltb _ _ g.bytes_high,
      le-leb _ _ begins,
      g.mark,
      eq-eqb _ _ g.version_is,
      le-ltb _ _ few,
      eq-eqb _ _ whole,
      known,
      le-leb _ _ q.p_low,
      le-leb _ _ q.p_high,
      le-leb _ _ q.m_low,
      le-leb _ _ q.m_high,
    ) in
    read ∙ ap (λ (x : Header). scheduled x (records_in version1 s)) (sym g.header) ∙ ap (λ (k : ℕ). scheduled h k) many

pick_below : (b : Bool) (x most : ℕ) → 0 < most → x < most → pick b 0 x < most
pick_below true x most z h = z
pick_below false x most z h = h

below_pick : (b : Bool) (x most : ℕ) → 0 < most → x < most → pick b x 0 < most
below_pick true x most z h = h
below_pick false x most z h = z

module _ (h : Header) (f : Fields) (out : List ℕ) (t : Typed h f) (g : Fine h f out) where
  kind_low : (k : ℕ) → k < count f → (entry_at f k).kind ≤ most_kind
  kind_low k l = leb-true _ _ (below_at (count f) k (known f.kinds) l g.known)

  record_is : (k : ℕ) → k < count f → record_at (file_of h f) k ≡ read_as (needed (entry_at f k))
  unfolding record_in file_of
  record_is k l =
      let low = kind_low k l in
      entry_there h f (count f) k l
      ∙ fields_are (needed (entry_at f k))
      (record {
        kind = omega arith;
        process = t.processes k;
        cell = pick_below (eqb (entry_at f k).kind step_kind) (entry_at f k).cell (256 ^ 2) (omega arith) (t.cells k);
        value = below_pick (eqb (entry_at f k).kind write_kind) (entry_at f k).value (256 ^ 4) (omega arith) (t.values k);
      })

  file_schedule : Schedule version1 (file_of h f) h (count f)
  unfolding file_of
  file_schedule =
      let rest = entries_below f (count f) in
      let bytes = file_length h f in
      record {
        mark = head_marked h rest;
        version_is = head_version h rest;
        header = sym (header_is h t.words g.counts.p_high g.few rest);
        counts = g.counts;
        m_few = g.few;
        bytes = bytes;
        bytes_high = g.fits;
        n_high = omega (arith, g.fits, bytes);
        kinds = λ k l. rw (record_is k l) (kind_low k l);
      }

  file_read : read_of (file_of h f) ≡ scheduled h (count f)
  file_read = accepts (file_of h f) h (count f) file_schedule

pub what_is_written_is_read : WrittenIsRead
what_is_written_is_read h f out n o t e =
    let g = fine h f out n o e in
    rw (file_is h f out n o e) (file_read h f out t g, record_is h f out t g)
