-- Each case of a file's reading, as a law of its definition.
-- Assumes nothing.
use mathlib.Core.Path.{◌≡◌, refl, sym, ap, ◌∙◌}
use mathlib.Core.Bool.{Bool, true, false, not}
use mathlib.Core.List.{List}
use Prim.Native.Nat.{ℕ, ◌+◌, ◌%◌, ◌<◌, ◌≤◌}
use native.Mathlib.Omega.{arith}
use lib.Dec.{eqb}
use lib.ListN.{length}
use borrow.Author.Tests.{lt-ltb, le-ltb, le-leb, lt-leb, eq-eqb, ne_eqb, not-true, not-false}
use Rattle.numbers.specs.Cells.{processes_fit, cells_fit}
use Rattle.logic.specs.Below.{below}
use Rattle.logic.specs.BelowLaws.{below_fails, below_next}
use Rattle.refusals.specs.declared.Refusal.{Refusal}
use Rattle.qhs.specs.declared.Layout.{Layout}
use Rattle.qhs.specs.declared.Header.{Header}
use Rattle.std.specs.Prelude.{Ok, Err}
use Rattle.qhs.specs.Qhs.{version1, most_bytes, most_file_cells, most_kind, marked, version_of, header_of, body_bytes, records_in}
use Rattle.qhs.specs.Qhs.{record_in, kind_fits, Counts, counts_as, Reading, scheduled, read_in, read_of}
use Rattle.qhs.specs.Inner.{opened_as, records_as}
use Rattle.qhs.specs.Laws.{counted_as, counted}

-- ---- the kinds of the first records

abbrev pub Known : Layout → List ℕ → ℕ → Type 0
Known l s k = below k (kind_fits l s) ≡ true

pub known_none : (l : Layout) (s : List ℕ) → Known l s 0
unfolding below
known_none l s = refl

module _ (l : Layout) (s : List ℕ) (k kind : ℕ) (is : kind ≡ (record_in l s k).kind) where
  pub known_next : Known l s k → kind ≤ most_kind → Known l s (k + 1)
  known_next h low = below_next k (kind_fits l s) h (le-leb _ _ (rw is at low))

  pub unknown : (n : ℕ) → k < n → most_kind < kind → false ≡ below n (kind_fits l s)
  unknown n h high = sym (below_fails n k (kind_fits l s) h (lt-leb _ _ (rw is at high)))

pub known_all : (l : Layout) (s : List ℕ) (k n : ℕ) → Known l s k → k ≤ n → n ≤ k → true ≡ below n (kind_fits l s)
known_all l s k n h low high = let e : k ≡ n = omega arith in sym (rw e at h)

-- ---- the header's refusals

module _ (l : Layout) (s : List ℕ) where
  pub too_long : most_bytes < length s → Err Refusal.FileTooLong ≡ read_in l s
  unfolding read_in
  too_long h = simp (lt-ltb _ _ h)

  module _ (fits : length s ≤ most_bytes) where
    pub too_short : length s < l.header → Err Refusal.NotASchedule ≡ read_in l s
    unfolding read_in
    too_short h = simp (le-ltb _ _ fits, lt-leb _ _ h)

    module _ (long : l.header ≤ length s) (b : Bool) (eb : b ≡ marked s) where
      pub unmarked : not b ≡ true → Err Refusal.NotASchedule ≡ read_in l s
      unfolding read_in
      unmarked h = simp (le-ltb _ _ fits, le-leb _ _ long, sym eb ∙ not-true b h)

      module _ (mark : not b ≡ false) (v : ℕ) (ev : v ≡ version_of s) where
        is_marked : marked s ≡ true
        is_marked = sym eb ∙ not-false b mark

        pub other_version : (v ≡ l.version → ⊥) → Err Refusal.Version ≡ read_in l s
        unfolding read_in
        other_version h = simp (le-ltb _ _ fits, le-leb _ _ long, is_marked, ne_eqb (version_of s) l.version (λ e. h (ev ∙ e)))

        module _ (one : v ≡ l.version) (d : Header) (ed : d ≡ header_of l s) where
          is_one : eqb (version_of s) l.version ≡ true
          is_one = eq-eqb _ _ (sym ev ∙ one)

          m_is : (header_of l s).m ≡ d.m
          m_is = ap (λ (x : Header). x.m) (sym ed)

          pub many_cells : most_file_cells < d.m → Err Refusal.TooManyCells ≡ read_in l s
          unfolding read_in
          many_cells h = simp (le-ltb _ _ fits, le-leb _ _ long, is_marked, is_one, m_is, lt-ltb _ _ h)

          pub left_to_records : (r : Reading) → d.m ≤ most_file_cells → r ≡ records_as l s d → r ≡ read_in l s
          unfolding read_in
          left_to_records r few e =
              let small : (header_of l s).m ≤ most_file_cells = rw m_is few in
              e ∙ rw ed (simp (le-ltb _ _ fits, le-leb _ _ long, is_marked, is_one, le-ltb _ _ small))

pub read_is : (s : List ℕ) (r : Reading) → r ≡ read_in version1 s → r ≡ read_of s
unfolding read_of
read_is s r e = e

-- ---- the records' refusals

module _ (l : Layout) (s : List ℕ) (d : Header) where
  pub ragged : (body_bytes l s % l.stride ≡ 0 → ⊥) → Err Refusal.RaggedRecords ≡ records_as l s d
  ragged h = simp (ne_eqb _ _ h)

  module _ (whole : body_bytes l s % l.stride ≡ 0) (t : Bool) (et : t ≡ below (records_in l s) (kind_fits l s)) where
    pub unknown_kind : not t ≡ true → Err Refusal.RecordKind ≡ records_as l s d
    unknown_kind h = simp (eq-eqb _ _ whole, sym et ∙ not-true t h)

    pub left_to_open : (r : Reading) → not t ≡ false → r ≡ opened_as d (records_in l s) → r ≡ records_as l s d
    left_to_open r h e = e ∙ simp (eq-eqb _ _ whole, sym et ∙ not-false t h)

-- ---- open's refusals

module _ (d : Header) (n : ℕ) (c : Counts) (is : c ≡ counts_as d.p d.m) where
  abbrev comes : Counts → Reading
  comes x = counted_as Err (scheduled d n) x

  left : comes c ≡ opened_as d n
  left = ap comes is ∙ counted Err d.p d.m (scheduled d n)

  pub opened_not : (r : Refusal) → c ≡ Err r → Err r ≡ opened_as d n
  opened_not r e = ap comes (sym e) ∙ left

  pub opened_fit : c ≡ Ok tt → scheduled d n ≡ opened_as d n
  opened_fit e = ap comes (sym e) ∙ left

module _ (p m : ℕ) (x : Bool) (e : x ≡ processes_fit p) where
  pub no_processes : not x ≡ true → Err Refusal.ProcessCount ≡ counts_as p m
  no_processes h = rw (sym e ∙ not-true x h)

  module _ (h : not x ≡ false) (y : Bool) (f : y ≡ cells_fit m) where
    pub no_cells : not y ≡ true → Err Refusal.CellCount ≡ counts_as p m
    no_cells k = rw (sym e ∙ not-false x h, sym f ∙ not-true y k)

    pub both_fit : not y ≡ false → Ok tt ≡ counts_as p m
    both_fit k = rw (sym e ∙ not-false x h, sym f ∙ not-false y k)
