-- A grid played from its opening by a list of calls, and what is looked at in the end.
-- Assumes nothing.
use Rattle.std.specs.Prelude.{List, [], ◌∷◌, ◌++◌, ◌≡◌, refl, Bool, true, false, ◌&&◌, ℕ, ◌-◌, eqb, get_or, replicate, Ok, Err}
use Rattle.numbers.specs.Numbers.{link_of, directory_words, pool_words}
use Rattle.numbers.specs.declared.Terms.{Terms}
use Rattle.refusals.specs.Numbers.{number_of}
use Rattle.lanes.specs.declared.State.{State}
use Rattle.lanes.specs.Ranges.{lane_of}
use Rattle.steps.specs.Memory.{Memory, memory}
use Rattle.acts.specs.declared.Ask.{Ask}
use Rattle.acts.specs.declared.Answer.{Answer}
use Rattle.acts.specs.Calls.{Opening, Response}
use Rattle.acts.specs.Worlds.{grid, Call, begin, step, World, answer_to, world_after, after, opened_world}

-- A grid of p processes and m cells whose filling rule gives 0.
abbrev pub terms : ℕ → ℕ → Terms
terms p m = record { p = p; m = m; first = 0; step = 0 }

-- A play is a list of calls: a process begins a write, or takes a number of steps.
abbrev pub Play : ℕ → ℕ → Type 0
Play p m = List (Call Ask (terms p m))

abbrev pub write : {z : Terms} → (process cell value : ℕ) → List (Call Ask z)
write q i v = begin q (Ask.Write (record { 0 = i }) v) ∷ []

abbrev pub steps : {z : Terms} → (process count : ℕ) → List (Call Ask z)
steps q n = replicate n (step q)

-- Memory of the right lengths, each word 0; and with a pool one word short.
abbrev pub zeros_with : ℕ → ℕ → ℕ → Memory
zeros_with p m words = memory (replicate m 0) (replicate m 0) (replicate (directory_words p) 0) (replicate words 0)

abbrev pub zeros : ℕ → ℕ → Memory
zeros p m = zeros_with p m (pool_words p m)

abbrev pub shortened : ℕ → ℕ → Memory
shortened p m = zeros_with p m (pool_words p m - 1)

abbrev pub opened : ℕ → ℕ → World State
opened p m = opened_world grid (terms p m) (zeros p m)

-- The world that a play leaves,
unfoldable pub played : (p m : ℕ) → Play p m → World State
played p m calls = after grid (opened p m) calls

-- and what its last call answers.
unfoldable pub last_from : {z : Terms} → World State → List (Call Ask z) → Response → Response
last_from w [] a = a
last_from w (c ∷ cs) a = last_from (world_after grid w c) cs (answer_to grid w c)

pub last_call : {z : Terms} (w : World State) (cs : List (Call Ask z)) (c : Call Ask z) (a : Response)
    → last_from w (cs ++ (c ∷ [])) a ≡ answer_to grid (after grid w cs) c
unfolding last_from after
last_call w [] c a = refl
last_call w (x ∷ cs) c a = last_call (world_after grid w x) cs c (answer_to grid w x)

abbrev pub last : (p m : ℕ) → Play p m → Response
last p m calls = last_from (opened p m) calls (Ok Answer.Begun)

-- What is looked at in the end: the last answer, a cell's link, a lane's marks in force, the pool's words handed out.
pub data Seen : Type 0 where
  wrote : (count : ℕ) → Seen
  leaves : (cell process place : ℕ) → Seen
  in_force : (process marks : ℕ) → Seen
  handed_out : (words : ℕ) → Seen

abbrev pub has_written : Response → ℕ → Bool
has_written (Ok Answer.Begun) n = false
has_written (Ok Answer.Going) n = false
has_written (Ok (Answer.Read v b k)) n = false
has_written (Ok (Answer.Written k)) n = eqb k n
has_written (Ok (Answer.Asked b k)) n = false
has_written (Err r) n = false

abbrev pub is_seen : World State → Response → Seen → Bool
is_seen w a (wrote n) = has_written a n
is_seen w a (leaves i q n) = eqb (get_or w.memory.links i 0) (link_of q n)
is_seen w a (in_force q n) = eqb (lane_of w.state q).marks n
is_seen w a (handed_out n) = eqb w.state.top n

unfoldable pub sees : World State → Response → List Seen → Bool
sees w a [] = true
sees w a (x ∷ xs) = is_seen w a x && sees w a xs

-- The number of the refusal that a call gets; 0 for none.
abbrev pub refusal_of : Response → ℕ
refusal_of (Ok Answer.Begun) = 0
refusal_of (Ok Answer.Going) = 0
refusal_of (Ok (Answer.Read v b k)) = 0
refusal_of (Ok (Answer.Written k)) = 0
refusal_of (Ok (Answer.Asked b k)) = 0
refusal_of (Err r) = number_of r

abbrev pub opening_refusal : Opening → ℕ
opening_refusal (Ok tt) = 0
opening_refusal (Err r) = number_of r

abbrev pub opening : ℕ → ℕ → ℕ
opening p m = opening_refusal (grid.opens (terms p m) (memory [] [] [] [])).opening
