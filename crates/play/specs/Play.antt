-- The schedule program's output, from the file's bytes: "Schedule file and its program" of document 01.
-- Assumes nothing.
use Rattle.std.specs.Prelude.{ℕ, zero, suc, ◌+◌, ◌*◌, ◌%◌, List, [], ◌∷◌, ◌++◌, leb, eqb, length, replicate, Ok, Err, Some, None}
use Rattle.numbers.specs.Numbers.{most_processes, directory_words, pool_words}
use Rattle.numbers.specs.declared.Cell.{Cell}
use Rattle.numbers.specs.declared.Terms.{Terms}
use Rattle.logic.specs.Pick.{pick}
use Rattle.qhs.specs.declared.Header.{Header}
use Rattle.qhs.specs.declared.Record.{Record}
use Rattle.qhs.specs.Qhs.{most_records, most_file_cells, terms_of, record_at, read_of, Reading}
use Rattle.lanes.specs.declared.State.{State}
use Rattle.steps.specs.Memory.{Memory, memory}
use Rattle.acts.specs.declared.Ask.{Ask}
use Rattle.acts.specs.Worlds.{grid, Call, begin, step, World, answer_to, world_after, opened_world}
use Rattle.text.specs.Text.{answer_line, sizes_line, file_refused_line}
use Rattle.byte_lists.specs.Bytes.{splice, Placed, placed}

-- Each link gets the fill; other words get its low 32 bits.
abbrev pub low_of : Header → ℕ
low_of h = h.fill % 4294967296

abbrev pub filled : Header → Memory
filled h =
    memory
    (replicate h.m (low_of h))
    (replicate h.m h.fill)
    (replicate (directory_words h.p) (low_of h))
    (replicate (pool_words h.p h.m) (low_of h))

-- Kind: 0 step, 1 read, 2 write, 3 asked. Fields a kind doesn't need are ignored.
abbrev pub cell_of : Record → Cell
cell_of r = record { 0 = r.cell }

abbrev pub ask_of : Record → Ask
ask_of r = pick (eqb r.kind 1) (Ask.Read (cell_of r)) (pick (eqb r.kind 2) (Ask.Write (cell_of r) r.value) (Ask.Asked (cell_of r)))

-- A record is a call of its process.
abbrev pub call_of : (z : Terms) → Record → Call Ask z
call_of z r = pick (eqb r.kind 0) (step r.process) (begin r.process (ask_of r))

-- The first k records as calls.
unfoldable pub calls : (z : Terms) → List ℕ → ℕ → List (Call Ask z)
calls z bytes zero = []
calls z bytes (suc k) = calls z bytes k ++ (call_of z (record_at bytes k) ∷ [])

-- Record k as a call on the grid that the world was opened with; the world after the first k records, and their lines.
abbrev pub call_at : List ℕ → (w : World State) → ℕ → Call Ask w.state.terms
call_at bytes w k = call_of w.state.terms (record_at bytes k)

unfoldable pub after : List ℕ → World State → ℕ → World State
after bytes w zero = w
after bytes w (suc k) = world_after grid (after bytes w k) (call_at bytes w k)

abbrev pub line_at : List ℕ → World State → ℕ → List ℕ
line_at bytes w k = answer_line k (answer_to grid (after bytes w k) (call_at bytes w k))

unfoldable pub lines_to : List ℕ → World State → ℕ → List ℕ
lines_to bytes w zero = []
lines_to bytes w (suc k) = lines_to bytes w k ++ line_at bytes w k

-- It prints `processes P cells M`, then per record its line. A refused file prints only `file refused R`.
unfoldable pub schedule_text : List ℕ → Header → ℕ → Memory → List ℕ
schedule_text bytes h n mem = sizes_line h.p h.m ++ lines_to bytes (opened_world grid (terms_of h) mem) n

abbrev pub output_as : List ℕ → Reading → List ℕ
output_as bytes (Err r) = file_refused_line r
output_as bytes (Ok file) = schedule_text bytes file.header file.records (filled file.header)

abbrev pub output_of : List ℕ → List ℕ
output_of bytes = output_as bytes (read_of bytes)

-- The memories of the largest grid that a file asks for.
abbrev pub cell_room : ℕ
cell_room = most_file_cells

abbrev pub directory_room : ℕ
directory_room = directory_words most_processes

abbrev pub pool_room : ℕ
pool_room = pool_words most_processes most_file_cells

-- The buffer that an output is given: 8,190 lines of 27 bytes. A shorter one is refused and not touched.
abbrev pub line_room : ℕ
line_room = 27

abbrev pub output_room : ℕ
output_room = line_room * (most_records + 1)

abbrev pub put : List ℕ → List ℕ → Placed
put out text = placed (Some (length text)) (splice out 0 text)

abbrev pub play_of : List ℕ → List ℕ → Placed
play_of out bytes = pick (leb output_room (length out)) (put out (output_of bytes)) (placed None out)
