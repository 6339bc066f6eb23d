-- Histories that lose a reading: the letter's incident, and the schedules on which the mistaken machines lose one.
-- Assumes nothing.
use Rattle.std.specs.Prelude.{ℕ, zero, suc, true, false, List, [], ◌∷◌, replicate, Ok}
use Rattle.numbers.specs.Numbers.{directory_words, pool_words}
use Rattle.steps.specs.Memory.{memory}
use Rattle.demands.specs.Types.{Cell, Terms, State, Memory, Ask, Answer}
use Rattle.acts.specs.Worlds.{Machine, World, grid, Call, begin, step, opened_world}
use Rattle.broken.specs.Histories.{Heard, hear, history}
use Rattle.broken.specs.Mistakes.{swaps_first, no_tombstone}

abbrev pub cell : ℕ → Cell
cell i = record { 0 = i }

-- what a grid of p processes and m cells is opened with, filled with 7
abbrev pub terms : ℕ → ℕ → Terms
terms p m = record { p = p; m = m; first = 7; step = 0 }

-- ---- the letter's incident, on a grid filled with 7

-- a loader writes 9; "it got the reading, then 'empty'"
abbrev pub incident : List (Heard (terms 2 1))
incident =
    hear (begin 0 (Ask.Write (cell 0) 9)) (Ok Answer.Begun) ∷ hear (step 0) (Ok (Answer.Written 1)) ∷ hear (begin 1 (Ask.Read (cell 0))) (Ok Answer.Begun)
    ∷ hear (step 1) (Ok (Answer.Read 9 true 1)) ∷ hear (begin 1 (Ask.Read (cell 0))) (Ok Answer.Begun) ∷ hear (step 1) (Ok (Answer.Read 7 false 1)) ∷ []

-- zero load or no load: a loader writes 0 where 0 was filled in, and a read says "not written"
abbrev pub zero_load : List (Heard (terms 2 1))
zero_load =
    hear (begin 0 (Ask.Write (cell 0) 0)) (Ok Answer.Begun) ∷ hear (step 0) (Ok (Answer.Written 1)) ∷ hear (begin 1 (Ask.Read (cell 0))) (Ok Answer.Begun)
    ∷ hear (step 1) (Ok (Answer.Read 0 false 1)) ∷ []

-- the same by the written-or-not question, while the write is under way
abbrev pub question : List (Heard (terms 2 1))
question =
    hear (begin 0 (Ask.Write (cell 0) 9)) (Ok Answer.Begun) ∷ hear (begin 1 (Ask.Asked (cell 0))) (Ok Answer.Begun) ∷ hear (step 1) (Ok (Answer.Asked true 1))
    ∷ hear (begin 1 (Ask.Asked (cell 0))) (Ok Answer.Begun) ∷ hear (step 1) (Ok (Answer.Asked false 1)) ∷ []

-- ---- schedules

-- a grid of p processes and m cells filled with 7, with these links and other words 0
abbrev pub lent : (p m : ℕ) → List ℕ → Memory
lent p m links = memory (replicate m 0) links (replicate (directory_words p) 0) (replicate (pool_words p m) 0)

abbrev pub opened : (p m : ℕ) → List ℕ → World State
opened p m links = opened_world grid (terms p m) (lent p m links)

-- a link that names no process
abbrev pub stray : ℕ
stray = 18446744073709551615

infixr 60 ◌then◌
abbrev pub ◌then◌ : {z : Terms} → List (Call Ask z) → List (Call Ask z) → List (Call Ask z)
[] then ds = ds
(c ∷ cs) then ds = c ∷ (cs then ds)

abbrev pub writes : {z : Terms} → ℕ → ℕ → ℕ → List (Call Ask z)
writes q i v = begin q (Ask.Write (cell i) v) ∷ []

abbrev pub reads : {z : Terms} → ℕ → ℕ → List (Call Ask z)
reads q i = begin q (Ask.Read (cell i)) ∷ []

abbrev pub steps : {z : Terms} → ℕ → ℕ → List (Call Ask z)
steps q zero = []
steps q (suc n) = step q ∷ steps q n

abbrev pub heard : (p m : ℕ) → Machine State Ask → List ℕ → List (Call Ask (terms p m)) → List (Heard (terms p m))
heard p m M links calls = history M (opened p m links) calls

-- 004, Remark 1: process 0 swaps and stalls; process 1 loses the swap, ends its write, and reads the old value.
abbrev pub remark_1 : List (Heard (terms 2 1))
remark_1 =
    heard 2 1 swaps_first (stray ∷ [])
    (writes 0 0 9 then writes 1 0 9 then steps 1 2 then steps 0 6 then steps 1 4 then reads 1 0 then steps 1 2)

-- 004, section 4.1: the old link of cell 0 is (0, 0). Process 2 reads 9; process 0 takes its mark back and uses the place
-- for cell 1 while process 2 reads again.
abbrev pub race : List (Heard (terms 3 2))
race =
    heard 3 2 no_tombstone (0 ∷ stray ∷ [])
    (writes 0 0 9 then writes 1 0 9 then steps 1 3 then steps 0 7 then reads 2 0 then steps 2 5 then reads 2 0 then steps 2 1 then steps 1 5
    then steps 0 2 then writes 0 1 9 then steps 0 5 then steps 2 3)

-- With two processes: process 1 passed (b) on a mark that process 0 takes back, and at (d) meets the next mark at that place,
-- put for its own cell and not yet in force. It ends its write, and reads the old value.
abbrev pub two : List (Heard (terms 2 2))
two =
    heard 2 2 no_tombstone (0 ∷ stray ∷ [])
    (writes 0 1 9 then steps 0 5 then writes 1 1 9 then steps 1 7 then steps 0 1 then writes 1 0 8 then steps 1 3 then steps 0 2
    then writes 0 0 6 then steps 0 4 then steps 1 2 then reads 1 0 then steps 1 2)
