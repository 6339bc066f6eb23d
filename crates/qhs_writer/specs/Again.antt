-- What the round trips speak of: a file's fields as the writer takes them, and its bytes with the ignored fields put to zero.
-- Assumes nothing.
use Rattle.std.specs.Prelude.{ℕ, zero, suc, ◌+◌, List, [], ◌∷◌, ◌++◌, ltb, eqb}
use Rattle.logic.specs.Pick.{pick}
use Rattle.qhs.specs.declared.Record.{Record}
use Rattle.qhs.specs.Qhs.{version1, record_start, record_at, records_in}
use Rattle.byte_lists.specs.Bytes.{byte_at}
use Rattle.qhs_writer.specs.declared.Entry.{Entry}
use Rattle.qhs_writer.specs.Writer.{header_bytes, record_bytes, Fields, fields}

-- What a function gives for each number below n, in rising order.
unfoldable pub listed : ℕ → (ℕ → ℕ) → List ℕ
listed zero f = []
listed (suc n) f = listed n f ++ (f n ∷ [])

-- The fields of a file's first n records, a list for each.
abbrev pub fields_of : List ℕ → ℕ → Fields
fields_of bytes n =
    fields
    (listed n (λ k. (record_at bytes k).kind))
    (listed n (λ k. (record_at bytes k).process))
    (listed n (λ k. (record_at bytes k).cell))
    (listed n (λ k. (record_at bytes k).value))

-- A record that was written, as the reader gives it.
abbrev pub read_as : Entry → Record
read_as e = record { kind = e.kind; process = e.process; cell = e.cell; value = e.value }

-- The fields that a kind ignores stand last in its record: a step's from byte 2 on (cell and value), a read's and an asked's from
-- byte 4 on (value), a write's nowhere.
abbrev pub ignored_from : ℕ → ℕ
ignored_from kind = pick (eqb kind 0) 2 (pick (eqb kind 2) record_bytes 4)

-- Byte j of the record that starts at a byte, 0 where it is ignored. A record's first byte is its kind.
abbrev pub kept_at : List ℕ → ℕ → ℕ → ℕ
kept_at bytes start j = pick (ltb j (ignored_from (byte_at bytes start))) (byte_at bytes (start + j)) 0

unfoldable pub zeroed_below : List ℕ → ℕ → List ℕ
zeroed_below bytes zero = []
zeroed_below bytes (suc n) = zeroed_below bytes n ++ listed record_bytes (kept_at bytes (record_start version1 n))

-- The same bytes with the ignored fields put to zero: the header's, then each record's.
unfoldable pub zeroed : List ℕ → List ℕ
zeroed bytes = listed header_bytes (byte_at bytes) ++ zeroed_below bytes (records_in version1 bytes)
