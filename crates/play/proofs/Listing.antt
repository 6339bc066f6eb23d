-- Document 01's listing holds for the definition: the whole output of its file, byte for byte.
-- Assumes nothing.
use Rattle.std.specs.Prelude.{ℕ, ◌≡◌, refl, List, [], ◌∷◌, ◌++◌}
use Rattle.numbers.specs.Numbers.{segment_of, offset_of, size_of, log2, log_in}
use Rattle.logic.specs.Below.{below}
use Rattle.qhs.specs.Qhs.{record_in, read_in, read_of}
use Rattle.byte_lists.specs.Bytes.{number_at, word, decimal_in, decimal}
use Rattle.acts.specs.Calls.{opening_of, begun_of, verdict_of}
use Rattle.text.specs.Text.{answer_line, sizes_line}
use Rattle.play.specs.Play.{after, lines_to, schedule_text, output_of}

-- A record of 8 bytes: kind, process, cell (2 bytes), value (4 bytes). All by process 0, of cell 0.
abbrev pub step : List ℕ
step = 0 ∷ 0 ∷ 0 ∷ 0 ∷ 0 ∷ 0 ∷ 0 ∷ 0 ∷ []

abbrev pub read : List ℕ
read = 1 ∷ 0 ∷ 0 ∷ 0 ∷ 0 ∷ 0 ∷ 0 ∷ 0 ∷ []

abbrev pub write9 : List ℕ
write9 = 2 ∷ 0 ∷ 0 ∷ 0 ∷ 9 ∷ 0 ∷ 0 ∷ 0 ∷ []

-- Input p 1, m 2, first 7, step 0, fill all one bits;
abbrev pub header : List ℕ
header = 81 ∷ 72 ∷ 83 ∷ 1 ∷ 0 ∷ 1 ∷ 2 ∷ 0 ∷ 7 ∷ 0 ∷ 0 ∷ 0 ∷ 0 ∷ 0 ∷ 0 ∷ 0 ∷ 255 ∷ 255 ∷ 255 ∷ 255 ∷ 255 ∷ 255 ∷ 255 ∷ 255 ∷ []

-- records: read cell 0, 1 step, write 9 to cell 0, 7 steps, read cell 0, 6 steps.
abbrev pub file : List ℕ
file =
    header ++ read ++ step ++ write9 ++ step ++ step ++ step ++ step ++ step ++ step ++ step ++ read ++ step ++ step ++ step ++ step ++ step ++ step

pub listing : output_of file
    ≡ word "processes 1 cells 2\n0 begun\n1 read 7 0 1\n2 begun\n3 going\n4 going\n5 going\n6 going\n7 going\n8 going\n9 written 7\n"
    ++ word "10 begun\n11 going\n12 going\n13 going\n14 going\n15 read 9 1 5\n16 refused 7\n"
unfolding read_of read_in number_at record_in after lines_to schedule_text
    opening_of begun_of verdict_of decimal_in decimal answer_line sizes_line segment_of offset_of size_of log2 log_in below
listing = refl
