-- Books of two writes that overlap and end, and of a read that comes later and tells which of them was the last.
-- Assumes nothing.
use Rattle.std.specs.Prelude.{ℕ, Bool, true, false}
use mathlib.Core.List.{List, [], ◌∷◌}
use Rattle.theory.specs.Array.{read, write, got, done}
use Rattle.theory.specs.Order.{Done}
use Rattle.demands.specs.Book.{nothing, Book}

-- ---- the books

abbrev pub filled : ℕ → ℕ
filled i = 7

-- processes 0 and 1 write 8 and 9, one while the other does; then process 2 reads the one or the other
abbrev pub first : Done
first = record { began = 0; ended = 2; who = 0; op = write 8; cell = 0; ans = done }

abbrev pub second : Done
second = record { began = 1; ended = 3; who = 1; op = write 9; cell = 0; ans = done }

abbrev pub seen : Bool → ℕ
seen true = 8
seen false = 9

abbrev pub reading : Bool → Done
reading c = record { began = 4; ended = 5; who = 2; op = read; cell = 0; ans = got (seen c) true }

abbrev pub ended_in : List Bool → List Done
ended_in [] = second ∷ first ∷ []
ended_in (c ∷ cs) = reading c ∷ second ∷ first ∷ []

abbrev pub book : List Bool → Book
book cs = record { now = 6; doing = λ q. nothing; ended = ended_in cs; cells = λ i. 1; procs = λ q. 1 }
