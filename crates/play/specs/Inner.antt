-- What functions inside the crate ask and promise; no statement cites it.
-- Assumes nothing.
use Rattle.std.specs.Prelude.{ℕ, zero, suc, ◌+◌, ◌*◌, ◌<◌, ◌≤◌, ◌≡◌, List, [], ◌++◌, ltb, length, get_or}
use Rattle.numbers.specs.Numbers.{most_processes}
use Rattle.logic.specs.Pick.{pick}
use Rattle.qhs.specs.declared.Header.{Header}
use Rattle.qhs.specs.declared.Record.{Record}
use Rattle.qhs.specs.Qhs.{most_records, most_file_cells, most_kind}
use Rattle.batch.specs.Batch.{answer_of}
use Rattle.lanes.specs.declared.State.{State}
use Rattle.acts.specs.Worlds.{grid, World, answer_to}
use Rattle.text.specs.Text.{answer_line}
use Rattle.byte_lists.specs.Bytes.{splice}
use Rattle.play.specs.Play.{call_at, after, line_room, output_room}

-- The records of a list: 32 at the most.
abbrev pub list_records : ℕ
list_records = 32

abbrev pub count_of : ℕ → ℕ
count_of left = pick (ltb left list_records) left list_records

-- A kind as an entry of a batch has it: one over the last is played as the last.
abbrev pub kind_of : Record → ℕ
kind_of d = pick (ltb d.kind most_kind) d.kind most_kind

-- What c records from record `first` on come to, on a grid that began as w: the grid, and the words of their answers.
pub record Listed (bytes : List ℕ) (w : World State) (first c : ℕ) (left : World State) (words : List ℕ) : Type 0 where
  pub is : left ≡ after bytes w (first + c)
  pub says : (i : ℕ) → i < c → answer_of (get_or words i 0) ≡ answer_to grid (after bytes w (first + i)) (call_at bytes w (first + i))

-- A list played: whatever the grid began as, if the records before the list left it so.
abbrev pub Played : List ℕ → ℕ → ℕ → World State → World State → List ℕ → Type 0
Played bytes first c found left words = (w : World State) → found ≡ after bytes w first → Listed bytes w first c left words

-- The lines of the first c words of a list.
unfoldable pub word_lines : ℕ → List ℕ → ℕ → List ℕ
word_lines first words zero = []
word_lines first words (suc c) = word_lines first words c ++ answer_line (first + c) (answer_of (get_or words c 0))

-- A text of so many lines put into a buffer: the buffer then, and where the text ends.
pub record Shown (count : ℕ) (out : List ℕ) (at : ℕ) (text written : List ℕ) (end : ℕ) : Type 0 where
  pub shows : written ≡ splice out at text
  pub ends : end ≡ at + length text
  pub short : length text ≤ line_room * count

-- What a list asks: few records, and a word for each.
pub record Short (first c : ℕ) (words : List ℕ) : Type 0 where
  pub few : c ≤ list_records
  pub number : first + c < 18446744073709551616
  pub told : c ≤ length words

-- What its lines ask: numbers of four digits, and room.
pub record Room (first c : ℕ) (words : List ℕ) (at : ℕ) (out : List ℕ) : Type 0 where
  pub number : first + c ≤ 10000
  pub told : c ≤ length words
  pub room : at + line_room * c ≤ length out

-- A grid for which there is memory.
pub record Small (h : Header) : Type 0 where
  pub p_high : h.p ≤ most_processes
  pub m_high : h.m ≤ most_file_cells

-- What a schedule asks of its header, of its number of records and of the buffer.
pub record Ready (h : Header) (n : ℕ) (out : List ℕ) : Type 0 where
  pub p_high : h.p ≤ most_processes
  pub m_high : h.m ≤ most_file_cells
  pub n_high : n ≤ most_records
  pub room : output_room ≤ length out
