-- What the programs print is what runs of the grid answer: the statements.
-- Assumes nothing.
use Rattle.std.specs.Prelude.{ℕ, ◌≤◌, ◌≡◌, ◌≢◌, List, ◌++◌, length, Some, Err}
use Rattle.lists.specs.Lists.{gathered}
use Rattle.refusals.specs.Numbers.{number_of}
use Rattle.refusals.specs.Orders.{orders}
use Rattle.qhs.specs.declared.Header.{Header}
use Rattle.qhs.specs.Qhs.{terms_of, record_at, read_of, scheduled}
use Rattle.acts.specs.Worlds.{grid, Call, answer_to, Accepted, opened_world}
use Rattle.byte_lists.specs.Bytes.{splice, Placed, placed, put_of}
use Rattle.text.specs.Text.{answer_line, sizes_line, refused_line}
use Rattle.play.specs.Play.{filled, call_of, calls, after, output_of}
use Rattle.sheet.specs.Sheet.{sheet_of}
use Rattle.demands.specs.Types.{Refusal, Terms, State, Memory, Ask, Response}
use Rattle.demands.specs.Kinds.{writing}
use Rattle.demands.specs.Book.{Book, Run, run, start}
use Rattle.demands.specs.Demand2.{OneOrder}
use Rattle.demands.specs.Demanded.{Meets}
use Rattle.resting.specs.AtRest as AtRest
use Rattle.paper.specs.OnPaper.{array_text, refusals_in}

-- A grid of a file's header, opened in lent memory: its run after the first k records, record k's call, and the run's answer to it.
module _ (bytes : List ℕ) (h : Header) (mem : Memory) where
  abbrev pub run_of : ℕ → Run State
  run_of k = run writing grid (start (opened_world grid (terms_of h) mem)) (calls (terms_of h) bytes k)

  abbrev pub call_on : ℕ → Call Ask (terms_of h)
  call_on k = call_of (terms_of h) (record_at bytes k)

  abbrev pub answer_on : ℕ → Response
  answer_on k = answer_to grid (run_of k).world (call_on k)

-- What `state_after` promises to leave is what a run leaves, in any memory that open accepts.
abbrev pub LeavesARun : Type 0
LeavesARun =
    (bytes : List ℕ) (h : Header) (mem : Memory) (n : ℕ) → Accepted grid (terms_of h) mem
    → (after bytes (opened_world grid (terms_of h) mem) n ≡ (run_of bytes h mem n).world) × Meets writing grid (terms_of h) (run_of bytes h mem n)

-- A file that is a schedule of n records. Open accepts its grid; each run is as demanded, and line k is its answer to record k's call.
-- `few`: no line is that of a refusal from 8 on.
pub record Printed (bytes : List ℕ) (h : Header) (n : ℕ) : Type 0 where
  pub accepted : Accepted grid (terms_of h) (filled h)
  pub demanded : (k : ℕ) → Meets writing grid (terms_of h) (run_of bytes h (filled h) k)
  pub prints : output_of bytes ≡ sizes_line h.p h.m ++ gathered n (λ (k : ℕ). answer_line k (answer_on bytes h (filled h) k))
  pub few : (k : ℕ) (r : Refusal) → 8 ≤ number_of r → answer_line k (answer_on bytes h (filled h) k) ≢ answer_line k (Err r)

-- What the planners' program puts into its buffer, by the book and a text: `refused 10` with an operation under way, then `refused 17`
-- if the text is longer than the buffer; else the text. 9 and 8 never occur.
abbrev pub sheet_in : Terms → Book → List ℕ → List ℕ → Placed
sheet_in z b text out =
    orders (λ r. put_of out 0 (refused_line r)) (refusals_in z b text out) (placed (Some (length text)) (splice out 0 text))

-- The text is that of the array of demand 2, in one order of the run.
pub record Sheet (bytes : List ℕ) (h : Header) (n : ℕ) : Type 0 where
  pub one_order : OneOrder (AtRest.filled (terms_of h)) (run_of bytes h (filled h) n).book
  pub prints : (out : List ℕ) → sheet_of bytes out
      ≡ sheet_in (terms_of h) (run_of bytes h (filled h) n).book (array_text (AtRest.filled (terms_of h)) one_order.order h.m) out

-- What each program prints for the bytes of any file that the reader accepts.
abbrev pub PrintsARun : Type 0
PrintsARun = (bytes : List ℕ) (h : Header) (n : ℕ) → read_of bytes ≡ scheduled h n → Printed bytes h n

abbrev pub SheetOfARun : Type 0
SheetOfARun = (bytes : List ℕ) (h : Header) (n : ℕ) → read_of bytes ≡ scheduled h n → Sheet bytes h n
