-- The rewriting program's output, from the file's bytes: the file as the writer writes it, or why there is none.
-- Assumes nothing.
use Rattle.std.specs.Prelude.{ℕ, List, Ok, Err, Some}
use Rattle.qhs.specs.declared.Header.{Header}
use Rattle.qhs.specs.Qhs.{read_of, Reading}
use Rattle.text.specs.Text.{file_refused_line}
use Rattle.byte_lists.specs.Bytes.{Placed, placed, put_of}
use Rattle.qhs_writer.specs.Writer.{Page, write_of, Wrote}
use Rattle.qhs_writer.specs.Again.{fields_of}

-- A refused file prints only `file refused R`, whether the reader or the writer refuses it.
abbrev pub shown_as : List ℕ → Wrote → Placed
shown_as out (Ok end) = placed (Some end) out
shown_as out (Err r) = put_of out 0 (file_refused_line r)

abbrev pub shown : Page → Placed
shown p = shown_as p.out p.answer

unfoldable pub written : List ℕ → Header → ℕ → List ℕ → Placed
written bytes h n out = shown (write_of h (fields_of bytes n) out)

abbrev pub again_as : List ℕ → List ℕ → Reading → Placed
again_as bytes out (Err r) = put_of out 0 (file_refused_line r)
again_as bytes out (Ok file) = written bytes file.header file.records out

unfoldable pub again_of : List ℕ → List ℕ → Placed
again_of bytes out = again_as bytes out (read_of bytes)
