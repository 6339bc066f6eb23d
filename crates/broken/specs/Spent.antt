-- A schedule on which a machine that draws again spends more words than demand 3 allows.
-- Assumes nothing.
use Rattle.std.specs.Prelude.{ℕ, zero, suc, List, [], ◌∷◌}
use Rattle.numbers.specs.Numbers.{link_of}
use Rattle.acts.specs.Worlds.{Call}
use Rattle.demands.specs.Types.{State, Ask}
use Rattle.demands.specs.Kinds.{writing}
use Rattle.demands.specs.Book.{Run, run, start}
use Rattle.broken.specs.Mistakes.{draws_again}
use Rattle.broken.specs.Lost.{terms, opened, stray, ◌then◌, writes, steps}

-- Process 0 comes to its swap, process 1 writes the cell whole, and process 0 takes its mark back: so with each of n cells.
abbrev pub lost_to1 : ℕ → List (Call Ask (terms 2 5))
lost_to1 zero = []
lost_to1 (suc n) = lost_to1 n then writes 0 n 9 then steps 0 7 then writes 1 n 9 then steps 1 11 then steps 0 2

-- The old links name the places that process 1 will use, so that it needs two places for a cell.
abbrev pub four : Run State
four = run writing draws_again (start (opened 2 5 (link_of 1 0 ∷ link_of 1 2 ∷ link_of 1 4 ∷ link_of 1 6 ∷ stray ∷ []))) (lost_to1 4)
