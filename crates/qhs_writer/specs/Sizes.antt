-- How long a file and its parts are.
-- Assumes nothing.
use Rattle.std.specs.Prelude.{◌≡◌, refl, ℕ, zero, suc, ◌+◌, ◌*◌, length}
use Rattle.std.proofs.Common.{arith, length-append}
use Rattle.qhs.specs.declared.Header.{Header}
use Rattle.qhs_writer.specs.declared.Entry.{Entry}
use Rattle.qhs_writer.specs.Writer.{header_bytes, record_bytes, Fields, count, entry_at, front_bytes, back_bytes}
use Rattle.qhs_writer.specs.Writer.{head_bytes, needed, entry_bytes, entries_below, file_of}
use Rattle.byte_lists.specs.Bytes.{bytes_of}

pub head_length : (h : Header) → length (head_bytes h) ≡ header_bytes
unfolding head_bytes front_bytes back_bytes bytes_of
head_length h = refl

pub entry_length : (e : Entry) → length (entry_bytes e) ≡ record_bytes
unfolding entry_bytes bytes_of
entry_length e = refl

pub entries_length : (f : Fields) (n : ℕ) → length (entries_below f n) ≡ record_bytes * n
unfolding entries_below
entries_length f zero = refl
entries_length f (suc n) =
    omega (arith, length-append (entries_below f n) (entry_bytes (needed (entry_at f n))), entries_length f n, entry_length (needed (entry_at f n)))

pub file_length : (h : Header) (f : Fields) → length (file_of h f) ≡ header_bytes + record_bytes * count f
unfolding file_of
file_length h f = omega (arith, length-append (head_bytes h) (entries_below f (count f)), head_length h, entries_length f (count f))
