-- Runs of the grid that reach the steps of demand 3, and that need its words.
-- Assumes nothing.
use Rattle.std.specs.Prelude.{ℕ, zero, suc, List, [], ◌∷◌}
use Rattle.acts.specs.Calls.{step_of}
use Rattle.demands.specs.Types.{State, Ask, Response}
use Rattle.demands.specs.Kinds.{writing}
use Rattle.acts.specs.Worlds.{grid, Call, begin}
use Rattle.demands.specs.Book.{Run, run, start}
use Rattle.broken.specs.Lost.{cell, terms, opened, ◌then◌, writes, reads, steps}

abbrev pub after : (p m : ℕ) → List ℕ → List (Call Ask (terms p m)) → Run State
after p m links calls = run writing grid (start (opened p m links)) calls

-- what the next step of process q is answered
abbrev pub answered : Run State → ℕ → Response
answered r q = (step_of r.world.state q r.world.memory).stepped.answer

-- A read of a written cell ends with its step 5, a question with its step 4.
abbrev pub reading : List (Call Ask (terms 1 1))
reading = writes 0 0 9 then steps 0 9 then reads 0 0 then steps 0 4

abbrev pub asking : List (Call Ask (terms 1 1))
asking = writes 0 0 9 then steps 0 9 then (begin 0 (Ask.Asked (cell 0)) ∷ []) then steps 0 3

-- Example 9: process 1 wins the race for cell 1, and process 0 ends its write with its step 11.
abbrev pub losing : List (Call Ask (terms 2 2))
losing = writes 0 0 9 then steps 0 9 then writes 0 1 9 then steps 0 9 then writes 1 1 8 then steps 1 10 then steps 0 1

-- Eight cells, each with an old link to the place to be used next: 30 words are handed out, where 3 for each cell and 2 for
-- the loader would be 26.
abbrev pub written : ℕ → List (Call Ask (terms 1 8))
written zero = []
written (suc n) = written n then writes 0 n 9 then steps 0 11

abbrev pub colliding : List ℕ
colliding = 0 ∷ 2 ∷ 4 ∷ 6 ∷ 8 ∷ 10 ∷ 12 ∷ 14 ∷ []

abbrev pub full : Run State
full = after 1 8 colliding (written 8)

-- One cell and five loaders, each of which has drawn before any has ended: 10 words are handed out, where 4 for the cell and 1 for
-- each loader would be 9.
abbrev pub racing : ℕ → List (Call Ask (terms 5 1))
racing zero = []
racing (suc q) = racing q then writes q 0 9 then steps q 4

abbrev pub crowd : Run State
crowd = after 5 1 (0 ∷ []) (racing 5)
