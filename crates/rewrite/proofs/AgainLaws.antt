-- Each case of the rewriting program's output, as a law of its definition.
-- Assumes nothing.
use Rattle.std.specs.Prelude.{Ok, Err, Some}
use Prim.Native.Nat.{ℕ, ◌+◌, ◌^◌, ◌<◌, ◌≤◌}
use mathlib.Core.Path.{◌≡◌, refl, sym, ap, ◌∙◌}
use mathlib.Core.List.{List}
use native.Mathlib.Omega.{arith}
use native.Mathlib.Numerals.{add-one}
use lib.ListN.{length, take, set, replicate, length-set}
use lib.Seq.{take-suc-set, take_all}
use Rattle.refusals.specs.declared.Refusal.{Refusal}
use Rattle.qhs.specs.declared.Header.{Header}
use Rattle.qhs.specs.declared.Record.{Record}
use Rattle.qhs.specs.Qhs.{version1, most_records, record_in, record_at, read_of, Reading, scheduled}
use Rattle.qhs.specs.Laws.{schedule}
use Rattle.byte_lists.proofs.Digits.{Bytes, number_below}
use Rattle.qhs.specs.Parts.{part_length}
use Rattle.text.specs.Text.{file_refused_line}
use Rattle.byte_lists.specs.Bytes.{Placed, placed, put_of}
use Rattle.qhs_writer.specs.Writer.{Fields, fields, Page, page, write_of, Wrote}
use Rattle.qhs_writer.specs.Again.{listed, fields_of}
use Rattle.rewrite.specs.Again.{shown_as, shown, written, again_as, again_of}
use Rattle.rewrite.specs.Inner.{Room}

-- ---- the fields, record by record

-- a slice of n elements whose first k are what a function gives
pub record Listing (f : ℕ → ℕ) (n : ℕ) (xs : List ℕ) (k : ℕ) : Type 0 where
  pub sized : length xs ≡ n
  pub is : take k xs ≡ listed k f

listing_none : (f : ℕ → ℕ) (n : ℕ) (xs : List ℕ) → length xs ≡ n → Listing f n xs 0
unfolding listed
listing_none f n xs h = record { sized = h; is = refl }

listing_next : (f : ℕ → ℕ) (n : ℕ) (xs : List ℕ) (k v : ℕ) → k < n → Listing f n xs k → v ≡ f k → Listing f n (set xs k v) (k + 1)
unfolding listed
listing_next f n xs k v h g e =
    let fits : k < length xs = omega (arith, g.sized) in
    record {
      sized = length-set xs k v ∙ g.sized;
      is = rw (add-one k) (take-suc-set xs k v fits ∙ rw (g.is, e));
    }

listing_all : (f : ℕ → ℕ) (n : ℕ) (xs : List ℕ) (k : ℕ) → n ≤ k → k ≤ n → Listing f n xs k → xs ≡ listed n f
listing_all f n xs k h l g =
    let e : k ≡ n = omega arith in
    sym (take_all k xs (omega (arith, g.sized))) ∙ g.is ∙ rw e

-- the first k records' fields are in their slices
pub record Gathered (bytes : List ℕ) (n : ℕ) (kinds processes cells values : List ℕ) (k : ℕ) : Type 0 where
  pub low : k ≤ n
  pub kinds_are : Listing (λ i. (record_at bytes i).kind) n kinds k
  pub processes_are : Listing (λ i. (record_at bytes i).process) n processes k
  pub cells_are : Listing (λ i. (record_at bytes i).cell) n cells k
  pub values_are : Listing (λ i. (record_at bytes i).value) n values k

pub gathered_none : (bytes : List ℕ) (n : ℕ) (kinds processes cells values : List ℕ) → Room n kinds processes cells values
    → Gathered bytes n kinds processes cells values 0
gathered_none bytes n kinds processes cells values r = record {
  low = omega arith;
  kinds_are = listing_none _ n kinds r.for_kinds;
  processes_are = listing_none _ n processes r.for_processes;
  cells_are = listing_none _ n cells r.for_cells;
  values_are = listing_none _ n values r.for_values;
}

module _ (bytes : List ℕ) (n : ℕ) (kinds processes cells values : List ℕ) (k : ℕ) (g : Gathered bytes n kinds processes cells values k) where
  pub gathered_next : (r : Record) → k < n → r ≡ record_at bytes k
      → Gathered bytes n (set kinds k r.kind) (set processes k r.process) (set cells k r.cell) (set values k r.value) (k + 1)
  gathered_next r h e = record {
    low = omega arith;
    kinds_are = listing_next _ n kinds k r.kind h g.kinds_are (ap (λ (x : Record). x.kind) e);
    processes_are = listing_next _ n processes k r.process h g.processes_are (ap (λ (x : Record). x.process) e);
    cells_are = listing_next _ n cells k r.cell h g.cells_are (ap (λ (x : Record). x.cell) e);
    values_are = listing_next _ n values k r.value h g.values_are (ap (λ (x : Record). x.value) e);
  }

  pub gathered_all : n ≤ k → fields kinds processes cells values ≡ fields_of bytes n
  gathered_all h =
      rw (
        listing_all _ n kinds k h g.low g.kinds_are,
        listing_all _ n processes k h g.low g.processes_are,
        listing_all _ n cells k h g.low g.cells_are,
        listing_all _ n values k h g.low g.values_are,
      )

-- a record's cell has 16 bits
pub cell_fits_lem : (bytes : List ℕ) (k : ℕ) (r : Record) → Bytes bytes → r ≡ record_at bytes k → r.cell < 2 ^ 16
unfolding record_in
cell_fits_lem bytes k r b e = rw e (number_below bytes _ version1.cell b)

-- ---- room for the fields

pub room_for : (n most : ℕ) → n ≤ most
    → Room n (take n (replicate most 0)) (take n (replicate most 0)) (take n (replicate most 0)) (take n (replicate most 0))
room_for n most h =
    let e = sym (part_length n most 0 h) in
    record { for_kinds = e; for_processes = e; for_cells = e; for_values = e }

-- ---- what is printed

module _ (q : Page) (w : Wrote) (out : List ℕ) (e : page w out ≡ q) where
  pub printed_file : (end : ℕ) → w ≡ Ok end → placed (Some end) out ≡ shown q
  printed_file end f = ap (shown_as out) (sym f) ∙ ap shown e

  pub printed_refused : (r : Refusal) (p : Placed) → w ≡ Err r → p ≡ put_of out 0 (file_refused_line r) → p ≡ shown q
  printed_refused r p f g = g ∙ ap (shown_as out) (sym f) ∙ ap shown e

pub shows : (bytes : List ℕ) (h : Header) (n : ℕ) (f : Fields) (out : List ℕ) (p : Placed) → f ≡ fields_of bytes n → p ≡ shown (write_of h f out)
    → p ≡ written bytes h n out
unfolding written
shows bytes h n f out p e g = g ∙ ap (λ (x : Fields). shown (write_of h x out)) e

-- ---- the file

pub few_records : (bytes : List ℕ) (is : Reading) (h : Header) (n : ℕ) → is ≡ read_of bytes → is ≡ scheduled h n → n ≤ most_records
few_records bytes is h n read e = (schedule bytes is h n read e).n_high

module _ (bytes out : List ℕ) (is : Reading) (read : is ≡ read_of bytes) (r : Placed) where
  pub again_refused : (f : Refusal) → is ≡ Err f → r ≡ put_of out 0 (file_refused_line f) → r ≡ again_of bytes out
  unfolding again_of
  again_refused f e g = g ∙ ap (λ (x : Reading). again_as bytes out x) (sym e ∙ read)

  pub again_schedule : (h : Header) (n : ℕ) → is ≡ scheduled h n → r ≡ written bytes h n out → r ≡ again_of bytes out
  unfolding again_of
  again_schedule h n e g = g ∙ ap (λ (x : Reading). again_as bytes out x) (sym e ∙ read)
