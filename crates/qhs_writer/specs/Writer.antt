-- The schedule file's writer, version 1: a header and records as bytes in a lent buffer: document 02, W2.
-- Assumes nothing.
use Rattle.std.specs.Prelude.{ℕ, zero, suc, min, Bool, not, List, [], ◌∷◌, ◌++◌, leb, ltb, eqb, length, get_or, Result, Ok, Err}
use Rattle.logic.specs.Below.{below}
use Rattle.refusals.specs.Orders.{Rule, ◌gives◌, orders}
use Rattle.logic.specs.Pick.{pick}
use Rattle.refusals.specs.declared.Refusal.{Refusal}
use Rattle.qhs.specs.declared.Header.{Header}
use Rattle.qhs.specs.Qhs.{version1, most_bytes, most_file_cells, most_kind, open_refusals}
use Rattle.byte_lists.specs.Bytes.{word, splice, bytes_of}
use Rattle.qhs_writer.specs.declared.Entry.{Entry}

-- The writer's files are of version 1, with 16-bit cells.
abbrev pub version : ℕ
version = version1.version

abbrev pub header_bytes : ℕ
header_bytes = version1.header

abbrev pub record_bytes : ℕ
record_bytes = version1.stride

abbrev pub cell_bytes : ℕ
cell_bytes = version1.cell

-- The records as they are handed in: a slice for each field, and as many records as the shortest slice has.
pub record Fields : Type 0 where
  pub kinds : List ℕ
  pub processes : List ℕ
  pub cells : List ℕ
  pub values : List ℕ

abbrev pub fields : List ℕ → List ℕ → List ℕ → List ℕ → Fields
fields kinds processes cells values = record { kinds = kinds; processes = processes; cells = cells; values = values }

abbrev pub count : Fields → ℕ
count f = min (length f.kinds) (min (length f.processes) (min (length f.cells) (length f.values)))

-- Record k, numbered from 0.
abbrev pub entry_at : Fields → ℕ → Entry
entry_at f k = record { kind = get_or f.kinds k 0; process = get_or f.processes k 0; cell = get_or f.cells k 0; value = get_or f.values k 0 }

abbrev pub mark : List ℕ
mark = word "QHS"

-- Bytes 0 to 2 "QHS"; 3, 4 version 1; 5 p; 6, 7 m;
unfoldable pub front_bytes : Header → List ℕ
front_bytes h = mark ++ (bytes_of 2 version ++ (bytes_of 1 h.p ++ bytes_of cell_bytes h.m))

-- 8 to 11 first; 12 to 15 step; 16 to 23 a 64-bit fill.
unfoldable pub back_bytes : Header → List ℕ
back_bytes h = bytes_of 4 h.first ++ (bytes_of 4 h.step ++ bytes_of 8 h.fill)

unfoldable pub head_bytes : Header → List ℕ
head_bytes h = front_bytes h ++ back_bytes h

-- Kinds: 0 step, 1 read, 2 write, 3 asked. A step needs no cell, and a write alone a value; a field not needed is put to zero.
abbrev pub step_kind : ℕ
step_kind = 0

abbrev pub write_kind : ℕ
write_kind = 2

abbrev pub needed : Entry → Entry
needed e = record {
  kind = e.kind;
  process = e.process;
  cell = pick (eqb e.kind step_kind) 0 e.cell;
  value = pick (eqb e.kind write_kind) e.value 0;
}

-- Then records of 8 bytes: kind, process, cell (2 bytes), value (4 bytes).
unfoldable pub entry_bytes : Entry → List ℕ
entry_bytes e = bytes_of 1 e.kind ++ (bytes_of 1 e.process ++ (bytes_of cell_bytes e.cell ++ bytes_of 4 e.value))

unfoldable pub entries_below : Fields → ℕ → List ℕ
entries_below f zero = []
entries_below f (suc n) = entries_below f n ++ entry_bytes (needed (entry_at f n))

unfoldable pub file_of : Header → Fields → List ℕ
file_of h f = head_bytes h ++ entries_below f (count f)

-- No record's kind is over 3.
abbrev pub known : List ℕ → ℕ → Bool
known kinds k = leb (get_or kinds k 0) most_kind

abbrev pub all_known : Fields → Bool
all_known f = below (count f) (known f.kinds)

-- Refusals: 16 (the file would pass 65,536 bytes), 13, 15, 1, 2, then 17 if the lent buffer is too short.
abbrev pub write_refusals : Header → Fields → List ℕ → List Rule
write_refusals h f out =
    ltb most_bytes (length (file_of h f)) gives Refusal.FileTooLong
    ∷ ltb most_file_cells h.m gives Refusal.TooManyCells
    ∷ not (all_known f) gives Refusal.RecordKind
    ∷ (open_refusals h.p h.m ++ (ltb (length out) (length (file_of h f)) gives Refusal.NoRoom ∷ []))

-- How many bytes were written, or why none was.
abbrev pub Wrote : Type 0
Wrote = Result ℕ Refusal

-- What writing determines: the answer and the buffer. The header and the fields are only read.
pub record Page : Type 0 where
  pub answer : Wrote
  pub out : List ℕ

abbrev pub page : Wrote → List ℕ → Page
page answer out = record { answer = answer; out = out }

-- With a refusal nothing is written.
abbrev pub nothing_written : List ℕ → Refusal → Page
nothing_written out r = page (Err r) out

-- Bytes after the file stay.
unfoldable pub write_of : Header → Fields → List ℕ → Page
write_of h f out =
    orders (nothing_written out) (write_refusals h f out) (page (Ok (length (file_of h f))) (splice out 0 (file_of h f)))
