-- What is claimed of the schedule file's writer. Definitions only: `Outcomes`, `WrittenRead` and `ReadWritten` have the proofs.
-- Assumes nothing.
use Rattle.std.specs.Prelude.{ℕ, ◌^◌, ◌<◌, ◌≤◌, ◌≡◌, List, length, get_or, take, drop, Ok, Err}
use Rattle.refusals.specs.declared.Refusal.{Refusal}
use Rattle.qhs.specs.declared.Header.{Header}
use Rattle.qhs.specs.Qhs.{most_records, record_at, read_of, scheduled}
use Rattle.qhs.specs.Laws.{Words}
use Rattle.byte_lists.proofs.Digits.{Bytes}
use Rattle.byte_lists.specs.Bytes.{splice}
use Rattle.qhs_writer.specs.Writer.{Fields, count, entry_at, needed, page, write_of, Wrote}
use Rattle.qhs_writer.specs.Again.{fields_of, read_as, zeroed}

-- Any two outcomes that meet the promise coincide.
abbrev pub OneFile : Type 0
OneFile =
    (h : Header) (f : Fields) (out : List ℕ) (r r' : Wrote) (o o' : List ℕ) → page r o ≡ write_of h f out → page r' o' ≡ write_of h f out
    → (r ≡ r') × (o ≡ o')

-- Bytes after the file stay.
abbrev pub BytesAfterStay : Type 0
BytesAfterStay =
    (h : Header) (f : Fields) (out : List ℕ) (n : ℕ) (o : List ℕ) → page (Ok n) o ≡ write_of h f out
    → (length o ≡ length out) × (drop n o ≡ drop n out)

-- 16: of more than 8,189 records nothing else is looked at.
abbrev pub OverLong : Type 0
OverLong = (h : Header) (f : Fields) (out : List ℕ) → most_records < count f → write_of h f out ≡ page (Err Refusal.FileTooLong) out

-- A refusal writes nothing.
abbrev pub RefusedFile : Type 0
RefusedFile =
    (h : Header) (f : Fields) (out : List ℕ) (r : Refusal) (o : List ℕ) → page (Err r) o ≡ write_of h f out → o ≡ out

-- The numbers handed in fit their types: first and step 32 bits, the fill 64; a process 8 bits, a cell 16, a value 32.
pub record Typed (h : Header) (f : Fields) : Type 0 where
  pub words : Words h
  pub processes : (k : ℕ) → get_or f.processes k 0 < 2 ^ 8
  pub cells : (k : ℕ) → get_or f.cells k 0 < 2 ^ 16
  pub values : (k : ℕ) → get_or f.values k 0 < 2 ^ 32

-- What it writes, our reader accepts and gives back, ignored fields as zero.
abbrev pub WrittenIsRead : Type 0
WrittenIsRead =
    (h : Header) (f : Fields) (out : List ℕ) (n : ℕ) (o : List ℕ) → Typed h f → page (Ok n) o ≡ write_of h f out
    → (read_of (take n o) ≡ scheduled h (count f)) × ((k : ℕ) → k < count f → record_at (take n o) k ≡ read_as (needed (entry_at f k)))

-- What the reader accepts is written again as the same bytes, ignored fields put to zero.
abbrev pub ReadIsWritten : Type 0
ReadIsWritten =
    (s : List ℕ) (h : Header) (n : ℕ) (out : List ℕ) → Bytes s → read_of s ≡ scheduled h n → length s ≤ length out
    → write_of h (fields_of s n) out ≡ page (Ok (length s)) (splice out 0 (zeroed s))
