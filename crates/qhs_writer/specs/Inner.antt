-- What functions inside the crate ask and promise; no statement cites it.
-- Assumes nothing.
use Rattle.std.specs.Prelude.{ℕ, ◌+◌, ◌*◌, ◌≤◌, ◌≡◌, List, [], ◌∷◌, ltb, length, Ok, Err}
use Rattle.refusals.specs.Orders.{◌gives◌, orders}
use Rattle.refusals.specs.declared.Refusal.TheVariants as Refusal
use Rattle.qhs.specs.declared.Header.{Header}
use Rattle.qhs.specs.Qhs.{most_records}
use Rattle.byte_lists.specs.Bytes.{splice}
use Rattle.qhs_writer.specs.Writer.{record_bytes, Fields, count, file_of, Page, page}

-- So many bytes were put into a buffer, and end there.
pub record Laid (out : List ℕ) (at long : ℕ) (bytes after : List ℕ) (end : ℕ) : Type 0 where
  pub is : length bytes ≡ long
  pub ends : end ≡ at + long
  pub shows : after ≡ splice out at bytes
  pub sized : length after ≡ length out

-- Every slice has n elements, and the buffer has room for n records from a byte on.
pub record Within (f : Fields) (n start : ℕ) (out : List ℕ) : Type 0 where
  pub kinds : n ≤ length f.kinds
  pub processes : n ≤ length f.processes
  pub cells : n ≤ length f.cells
  pub values : n ≤ length f.values
  pub room : start + record_bytes * n ≤ length out

-- So many records are handed in, and a file has room for them.
pub record Few (f : Fields) (n : ℕ) : Type 0 where
  pub is : n ≡ count f
  pub high : n ≤ most_records

-- What writing comes to once only the buffer's length is left to look at.
abbrev pub filed_of : Header → Fields → List ℕ → Page
filed_of h f out =
    orders
    (λ r. page (Err r) out)
    (ltb (length out) (length (file_of h f)) gives Refusal.NoRoom ∷ [])
    (page (Ok (length (file_of h f))) (splice out 0 (file_of h f)))
