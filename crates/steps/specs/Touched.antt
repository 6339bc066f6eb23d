-- The shared words, and the one that a step touches.
-- Assumes nothing.
use Rattle.std.specs.Prelude.{ℕ, ◌+◌, List, get_or}
use Rattle.numbers.specs.Numbers.{segment_of, offset_of, directory_word, process_of, place_of}
use Rattle.numbers.specs.Cells.{index_of}
use Rattle.numbers.specs.declared.Cell.{Cell}
use Rattle.numbers.specs.declared.Terms.{Terms}
use Rattle.lanes.specs.declared.Check.{Check}
use Rattle.lanes.specs.declared.Marking.{Marking}
use Rattle.lanes.specs.declared.Op.{Op}
use Rattle.steps.specs.declared.Word.{Word}
use Rattle.steps.specs.Memory.{Memory}
use Rattle.steps.specs.Steps.{start_of}

-- What a word holds, where the lanes have these marks in force.
abbrev pub held_in : (ℕ → ℕ) → ℕ → Memory → Word → ℕ
held_in in_force top mem (Word.Reading i) = get_or mem.readings i 0
held_in in_force top mem (Word.Link i) = get_or mem.links i 0
held_in in_force top mem (Word.Directory k) = get_or mem.directory k 0
held_in in_force top mem (Word.Pool k) = get_or mem.pool k 0
held_in in_force top mem (Word.Marks q) = in_force q
held_in in_force top mem Word.Top = top

-- The one word that the next step of process q touches. A lane at rest takes no step.
abbrev pub touched_in : Terms → Cell → Check → Word
touched_in z i Check.Link = Word.Link (index_of z i)
touched_in z i (Check.Marks w) = Word.Marks (process_of w)
touched_in z i (Check.Directory w) = Word.Directory (directory_word (process_of w) (segment_of (place_of w)))
touched_in z i (Check.Mark start w) = Word.Pool (start + offset_of (place_of w))

abbrev pub touched_marking : Terms → ℕ → List ℕ → Cell → Marking → Word
touched_marking z q directory i (Marking.Draw stored w n) = Word.Top
touched_marking z q directory i (Marking.Enter stored start w n) = Word.Directory (directory_word q (segment_of n.0))
touched_marking z q directory i (Marking.Tombstone w n) = Word.Pool (start_of directory q n.0 + offset_of n.0)
touched_marking z q directory i (Marking.Mark w n) = Word.Pool (start_of directory q n.0 + offset_of n.0)
touched_marking z q directory i (Marking.Force w n) = Word.Marks q
touched_marking z q directory i (Marking.Swap w n) = Word.Link (index_of z i)
touched_marking z q directory i (Marking.TakeBack n) = Word.Marks q

abbrev pub touched : Terms → ℕ → List ℕ → Op → Word
touched z q directory Op.Idle = Word.Top
touched z q directory (Op.Read i c) = touched_in z i c
touched z q directory (Op.Reading i) = Word.Reading (index_of z i)
touched z q directory (Op.Asked i c) = touched_in z i c
touched z q directory (Op.Store i v) = Word.Reading (index_of z i)
touched z q directory (Op.Write i c) = touched_in z i c
touched z q directory (Op.Marking i k) = touched_marking z q directory i k
