-- The schedule file: what its bytes say, and its refusals in document 01's order.
-- Assumes nothing.
use Rattle.std.specs.Prelude.{ℕ, ◌+◌, ◌-◌, ◌*◌, ◌/◌, ◌%◌, Bool, not, ◌&&◌, List, [], ◌∷◌, leb, ltb, eqb, length, Result, Ok, Err}
use Rattle.byte_lists.specs.Bytes.{byte_at, number_at}
use Rattle.numbers.specs.Cells.{processes_fit, cells_fit}
use Rattle.numbers.specs.declared.Terms.{Terms}
use Rattle.logic.specs.Below.{below}
use Rattle.refusals.specs.Orders.{Rule, ◌gives◌, orders}
use Rattle.refusals.specs.declared.Refusal.{Refusal}
use Rattle.qhs.specs.declared.Layout.{Layout}
use Rattle.qhs.specs.declared.Header.{Header}
use Rattle.qhs.specs.declared.Record.{Record}
use Rattle.qhs.specs.declared.Schedule.{Schedule}

-- Version 1: a header of 24 bytes with a cell count of 2, first from 8, step from 12 and the fill from 16 on; then records of 8 bytes
-- with a cell of 2 bytes and the value from 4 on.
abbrev pub version1 : Layout
version1 = record { version = 1; header = 24; stride = 8; cell = 2; first = 8; step = 12; fill = 16; value = 4 }

-- A file's length: 65,536 bytes at the most; and its records, 8,189.
abbrev pub most_bytes : ℕ
most_bytes = 65536

abbrev pub most_records : ℕ
most_records = (most_bytes - version1.header) / version1.stride

-- A file's cells: 2,040 at the most.
abbrev pub most_file_cells : ℕ
most_file_cells = 2040

-- Kinds: 0 step, 1 read, 2 write, 3 asked.
abbrev pub most_kind : ℕ
most_kind = 3

-- Bytes 0 to 2 "QHS".
abbrev pub marked : List ℕ → Bool
marked bytes = eqb (byte_at bytes 0) 81 && (eqb (byte_at bytes 1) 72 && eqb (byte_at bytes 2) 83)

-- 3, 4 version.
abbrev pub version_of : List ℕ → ℕ
version_of bytes = number_at bytes 3 2

-- 5 p; from 6 on m; then first, step (4 bytes each) and a 64-bit fill, where the layout has them.
abbrev pub header_of : Layout → List ℕ → Header
header_of l bytes = record {
  p = number_at bytes 5 1;
  m = number_at bytes 6 l.cell;
  first = number_at bytes l.first 4;
  step = number_at bytes l.step 4;
  fill = number_at bytes l.fill 8;
}

-- What a grid of this header is opened with.
abbrev pub terms_of : Header → Terms
terms_of h = record { p = h.p; m = h.m; first = h.first; step = h.step }

-- Then records: kind, process, cell, value (4 bytes).
abbrev pub fields_at : Layout → List ℕ → ℕ → Record
fields_at l bytes at = record {
  kind = number_at bytes at 1;
  process = number_at bytes (at + 1) 1;
  cell = number_at bytes (at + 2) l.cell;
  value = number_at bytes (at + l.value) 4;
}

-- Record k of a file, numbered from 0.
abbrev pub record_start : Layout → ℕ → ℕ
record_start l k = l.header + l.stride * k

unfoldable pub record_in : Layout → List ℕ → ℕ → Record
record_in l bytes k = fields_at l bytes (record_start l k)

abbrev pub record_at : List ℕ → ℕ → Record
record_at bytes k = record_in version1 bytes k

-- The bytes after the header; as many records as they hold.
abbrev pub body_bytes : Layout → List ℕ → ℕ
body_bytes l bytes = length bytes - l.header

abbrev pub records_in : Layout → List ℕ → ℕ
records_in l bytes = body_bytes l bytes / l.stride

-- No record's kind is over 3.
abbrev pub kind_fits : Layout → List ℕ → ℕ → Bool
kind_fits l bytes k = leb (record_in l bytes k).kind most_kind

abbrev pub kinds_fit : Layout → List ℕ → Bool
kinds_fit l bytes = below (records_in l bytes) (kind_fits l bytes)

-- Open's 1, 2.
abbrev pub open_refusals : ℕ → ℕ → List Rule
open_refusals p m =
    not (processes_fit p) gives Refusal.ProcessCount
    ∷ not (cells_fit m) gives Refusal.CellCount
    ∷ []

abbrev pub Counts : Type 0
Counts = Result (Unit {0}) Refusal

abbrev pub counts_as : ℕ → ℕ → Counts
counts_as p m = orders Err (open_refusals p m) (Ok tt)

-- File: 16, 11, 12, 13, 14, 15, then open's. 15 looks at all records before 1, 2.
abbrev pub file_refusals : Layout → List ℕ → List Rule
file_refusals l bytes =
    ltb most_bytes (length bytes) gives Refusal.FileTooLong
    ∷ not (leb l.header (length bytes) && marked bytes) gives Refusal.NotASchedule
    ∷ not (eqb (version_of bytes) l.version) gives Refusal.Version
    ∷ ltb most_file_cells (header_of l bytes).m gives Refusal.TooManyCells
    ∷ not (eqb (body_bytes l bytes % l.stride) 0) gives Refusal.RaggedRecords
    ∷ not (kinds_fit l bytes) gives Refusal.RecordKind
    ∷ open_refusals (header_of l bytes).p (header_of l bytes).m

-- What a file is: refused, or a schedule of so many records.
abbrev pub Reading : Type 0
Reading = Result Schedule Refusal

abbrev pub scheduled : Header → ℕ → Reading
scheduled h n = Ok (record { header = h; records = n })

-- What a file of a layout comes to; a file of any bytes is held to version 1.
unfoldable pub read_in : Layout → List ℕ → Reading
read_in l bytes = orders Err (file_refusals l bytes) (scheduled (header_of l bytes) (records_in l bytes))

unfoldable pub read_of : List ℕ → Reading
read_of bytes = read_in version1 bytes
