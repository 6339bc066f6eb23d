-- A run of our grid on which an unfinished read needs its place.
-- Assumes nothing.
use Rattle.std.specs.Prelude.{false}
use mathlib.Core.List.{List, [], ◌∷◌}
use Rattle.acts.specs.Worlds.{grid, Call}
use Rattle.theory.specs.Array.{read, write, got, done}
use Rattle.theory.specs.Order.{Done}
use Rattle.demands.specs.Types.{Ask}
use Rattle.demands.specs.Kinds.{writing}
use Rattle.demands.specs.Book.{Book}
use Rattle.demands.specs.Growing.{book_of}
use Rattle.broken.specs.Lost.{terms, lent, ◌then◌, writes, reads, steps}

-- Process 0 begins a read of cell 0 and reads its old link; process 1 writes the cell, from first to last step; then the read
-- ends: not written. After the write's end the read, which stands before it, must have its place.
abbrev pub calls : List (Call Ask (terms 2 1))
calls = reads 0 0 then steps 0 1 then writes 1 0 9 then steps 1 8

abbrev pub more : List (Call Ask (terms 2 1))
more = steps 0 1

abbrev pub book : List (Call Ask (terms 2 1)) → Book
book = book_of writing grid (terms 2 1) (lent 2 1 (0 ∷ []))

abbrev pub wrote : Done
wrote = record { began = 2; ended = 10; who = 1; op = write 9; cell = 0; ans = done }

abbrev pub looked : Done
looked = record { began = 0; ended = 11; who = 0; op = read; cell = 0; ans = got 7 false }
