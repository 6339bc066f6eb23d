-- The program's lines as bytes: the line of each answer, and the lines of a whole output.
-- Assumes nothing.
use Rattle.std.specs.Prelude.{ℕ, Bool, true, false, List, ◌++◌, Ok, Err}
use Rattle.refusals.specs.Numbers.{number_of}
use Rattle.refusals.specs.declared.Refusal.{Refusal}
use Rattle.acts.specs.declared.Answer.{Answer}
use Rattle.byte_lists.specs.Bytes.{word, newline, decimal}
use Rattle.acts.specs.Calls.{Response}

-- One of: begun; going; read V B N (B is 1 if the cell is written, 0 if not); written N; asked B N; refused R. N is the operation's
-- own steps.
abbrev pub bit : Bool → ℕ
bit true = 1
bit false = 0

abbrev pub two : ℕ → ℕ → List ℕ
two v n = decimal v ++ (word " " ++ decimal n)

abbrev pub three : ℕ → ℕ → ℕ → List ℕ
three v b n = decimal v ++ (word " " ++ two b n)

abbrev pub saying : Response → List ℕ
saying (Ok Answer.Begun) = word "begun"
saying (Ok Answer.Going) = word "going"
saying (Ok (Answer.Read v b n)) = word "read " ++ three v (bit b) n
saying (Ok (Answer.Written n)) = word "written " ++ decimal n
saying (Ok (Answer.Asked b n)) = word "asked " ++ two (bit b) n
saying (Err r) = word "refused " ++ decimal (number_of r)

-- Per record its number from 0 and its answer.
unfoldable pub answer_line : ℕ → Response → List ℕ
answer_line k a = decimal k ++ (word " " ++ (saying a ++ newline))

-- It prints `processes P cells M`.
unfoldable pub sizes_line : ℕ → ℕ → List ℕ
sizes_line p m = word "processes " ++ (decimal p ++ (word " cells " ++ (decimal m ++ newline)))

-- A refused file prints only `file refused R`.
unfoldable pub file_refused_line : Refusal → List ℕ
file_refused_line r = word "file refused " ++ (decimal (number_of r) ++ newline)

-- A grid that gives no text prints only `refused R`.
unfoldable pub refused_line : Refusal → List ℕ
refused_line r = word "refused " ++ (decimal (number_of r) ++ newline)
