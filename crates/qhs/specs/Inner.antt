-- What the reader's own functions ask and are held to.
-- Assumes nothing.
use Rattle.std.specs.Prelude.{ℕ, ◌+◌, ◌%◌, ◌≤◌, not, List, [], ◌∷◌, leb, eqb, length, Err}
use Rattle.refusals.specs.Orders.{◌gives◌, orders}
use Rattle.refusals.specs.declared.Refusal.TheVariants as Refusal
use Rattle.logic.specs.Pick.{pick}
use Rattle.qhs.specs.declared.Layout.{Layout}
use Rattle.qhs.specs.declared.Header.{Header}
use Rattle.qhs.specs.Qhs.{version1, record_start, body_bytes, records_in, kinds_fit, open_refusals, Reading, scheduled}

-- How far a header or a record reaches at the most.
abbrev pub reach : ℕ
reach = 32

-- What is asked of a layout: version 1's lengths at the least, a number of cells in 32 bits, and every place within reach.
pub record Sound (l : Layout) : Type 0 where
  pub header_low : version1.header ≤ l.header
  pub stride_low : version1.stride ≤ l.stride
  pub cell_high : l.cell ≤ 4
  pub first_near : l.first ≤ reach
  pub step_near : l.step ≤ reach
  pub fill_near : l.fill ≤ reach
  pub value_near : l.value ≤ reach

-- So many bytes from a place in a file on, or from one within reach of its end.
abbrev pub Near : List ℕ → ℕ → ℕ → Type 0
Near bytes at width = at + width ≤ length bytes + (reach + 8)

-- Where record k starts in a file of so many bytes; the file's end where it would start past it.
abbrev pub start_in : Layout → ℕ → ℕ → ℕ
start_in l len k = pick (leb (record_start l k) len) (record_start l k) len

-- What a file of n records comes to once only open's refusals are left.
abbrev pub opened_as : Header → ℕ → Reading
opened_as d n = orders Err (open_refusals d.p d.m) (scheduled d n)

-- What a file comes to once its header is in order.
abbrev pub records_as : Layout → List ℕ → Header → Reading
records_as l bytes d =
    orders
    Err
    (not (eqb (body_bytes l bytes % l.stride) 0) gives Refusal.RaggedRecords ∷ not (kinds_fit l bytes) gives Refusal.RecordKind ∷ [])
    (opened_as d (records_in l bytes))
