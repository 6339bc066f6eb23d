-- Each case of writing a file, as a law of its definition.
-- Assumes nothing.
use Rattle.std.specs.Prelude.{Ok, Err}
use mathlib.Core.Path.{◌≡◌, refl, sym, ap, ◌∙◌}
use mathlib.Core.Bool.{Bool, true, false, not}
use mathlib.Core.List.{List, ◌++◌}
use Prim.Native.Nat.{ℕ, ◌+◌, ◌*◌, ◌<◌, ◌≤◌}
use native.Mathlib.Omega.{arith}
use lib.Dec.{ltb}
use lib.ListN.{length, get_or}
use borrow.Author.Tests.{lt-ltb, le-ltb, le-leb, lt-leb, not-true, not-false}
use Rattle.logic.specs.Below.{below}
use Rattle.logic.specs.BelowLaws.{below_fails, below_next}
use Rattle.refusals.specs.declared.Refusal.{Refusal}
use Rattle.qhs.specs.declared.Header.{Header}
use Rattle.qhs.specs.Qhs.{most_bytes, most_records, most_file_cells, most_kind, counts_as, Counts}
use Rattle.qhs.specs.Laws.{counted_as, counted}
use Rattle.byte_lists.specs.Bytes.{splice}
use Rattle.qhs_writer.specs.Writer.{header_bytes, record_bytes, Fields, count, head_bytes, entries_below, file_of, known, Page, page, write_of}
use Rattle.qhs_writer.specs.Inner.{Laid, Few, filed_of}
use Rattle.qhs_writer.specs.Sizes.{file_length}
use Rattle.qhs_writer.specs.Outcomes.{over_long}
use Rattle.qhs_writer.proofs.LaidLaws.{laid_then}

-- ---- the kinds of the first records

abbrev pub Known : List ℕ → ℕ → Type 0
Known kinds k = below k (known kinds) ≡ true

pub known_none : (kinds : List ℕ) → Known kinds 0
unfolding below
known_none kinds = refl

module _ (kinds : List ℕ) (k : ℕ) where
  pub known_next : Known kinds k → get_or kinds k 0 ≤ most_kind → Known kinds (k + 1)
  known_next h low = below_next k (known kinds) h (le-leb _ _ low)

  pub known_not : (n : ℕ) → k < n → most_kind < get_or kinds k 0 → false ≡ below n (known kinds)
  known_not n h high = sym (below_fails n k (known kinds) h (lt-leb _ _ high))

  pub known_all : (n : ℕ) → Known kinds k → k ≤ n → n ≤ k → true ≡ below n (known kinds)
  known_all n h low high = let e : k ≡ n = omega arith in sym (rw e at h)

-- ---- the refusals, and the file

module _ (h : Header) (f : Fields) (out : List ℕ) (n : ℕ) (q : Few f n) where
  long : length (file_of h f) ≡ header_bytes + record_bytes * n
  long = file_length h f ∙ rw q.is

  pub no_room : length out < header_bytes + record_bytes * n → page (Err Refusal.NoRoom) out ≡ filed_of h f out
  no_room g = simp (lt-ltb (length out) (length (file_of h f)) (omega (arith, long)))

  pub written : (o o' : List ℕ) (a b : ℕ) → header_bytes + record_bytes * n ≤ length out → Laid out 0 header_bytes (head_bytes h) o a
      → Laid o a (record_bytes * n) (entries_below f n) o' b → page (Ok b) o' ≡ filed_of h f out
  unfolding file_of
  written o o' a b g l k =
      let all = laid_then out o o' (head_bytes h) (entries_below f n) 0 header_bytes (record_bytes * n) a b (omega arith) l k in
      let whole : file_of h f ≡ head_bytes h ++ entries_below f n = rw q.is in
      let ends : b ≡ length (file_of h f) = omega (arith, all.ends, long) in
      let shows : o' ≡ splice out 0 (file_of h f) = all.shows ∙ rw whole in
      rw (ends, shows) (simp (le-ltb (length out) (length (file_of h f)) (omega (arith, long))))

module _ (h : Header) (f : Fields) (out : List ℕ) (n : ℕ) (is : n ≡ count f) where
  pub too_long : most_records < n → page (Err Refusal.FileTooLong) out ≡ write_of h f out
  too_long g = sym (over_long h f out (omega arith))

  module _ (fits : n ≤ most_records) where
    pub few : Few f n
    few = record { is = is; high = fits }

    short : ltb most_bytes (length (file_of h f)) ≡ false
    short = le-ltb most_bytes (length (file_of h f)) (omega (arith, long h f out n few))

    pub many_cells : most_file_cells < h.m → page (Err Refusal.TooManyCells) out ≡ write_of h f out
    unfolding write_of
    many_cells g = simp (short, lt-ltb _ _ g)

    module _ (small : h.m ≤ most_file_cells) (b : Bool) (eb : b ≡ below n (known f.kinds)) where
      all_known_lem : b ≡ below (count f) (known f.kinds)
      all_known_lem = eb ∙ rw is

      pub unknown_kind : not b ≡ true → page (Err Refusal.RecordKind) out ≡ write_of h f out
      unfolding write_of
      unknown_kind g = simp (short, le-ltb _ _ small, sym all_known_lem ∙ not-true b g)

      module _ (kinds : not b ≡ false) (c : Counts) (counts : c ≡ counts_as h.p h.m) where
        abbrev comes : Counts → Page
        comes x = counted_as (λ r. page (Err r) out) (filed_of h f out) x

        left : comes c ≡ write_of h f out
        unfolding write_of
        left =
            ap comes counts
            ∙ counted (λ r. page (Err r) out) h.p h.m (filed_of h f out)
            ∙ simp (short, le-ltb _ _ small, sym all_known_lem ∙ not-false b kinds)

        pub not_counted : (r : Refusal) → c ≡ Err r → page (Err r) out ≡ write_of h f out
        not_counted r e = ap comes (sym e) ∙ left

        pub left_to_room : (p : Page) → c ≡ Ok tt → p ≡ filed_of h f out → p ≡ write_of h f out
        left_to_room p e g = g ∙ ap comes (sym e) ∙ left
