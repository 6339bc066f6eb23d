-- 3. "A read ends by its own step 5, a written-or-not question by its own step 4, a write by its own step 11, and the
-- reported count is the count of its steps. Mark words handed out never exceed 4 for each different cell for which a
-- write has begun plus 2 for each loader that has begun one. So a pool of 4 per cell plus 2 per loader never runs short."
-- Assumes nothing.
use Rattle.std.specs.Prelude.{ℕ, suc, ◌+◌, ◌*◌, ◌≤◌, ◌<◌, ◌≡◌, Ok, Err}
use Rattle.acts.specs.Worlds.{Machine}
use Rattle.theory.specs.Array.{Op, read, asked, write}
use Rattle.theory.specs.Sum.{sum}
use Rattle.demands.specs.Types.{Terms, State, Answer, Response}
use Rattle.demands.specs.Book.{Doing, nothing, busy, Book, Run}

abbrev pub most_steps : Op → ℕ
most_steps read = 5
most_steps asked = 4
most_steps (write v) = 11

-- An operation ends with the count of its steps, at most so many.
abbrev pub Reports : ℕ → ℕ → ℕ → Type 0
Reports most taken n = (n ≡ taken) × (n ≤ most)

-- An accepted step is the `taken`-th of an operation: it goes on, and is not the last allowed; or it ends the operation.
abbrev pub Answers : ℕ → ℕ → Response → Type 0
Answers most taken (Ok Answer.Begun) = ⊥
Answers most taken (Ok Answer.Going) = taken < most
Answers most taken (Ok (Answer.Read v t n)) = Reports most taken n
Answers most taken (Ok (Answer.Written n)) = Reports most taken n
Answers most taken (Ok (Answer.Asked t n)) = Reports most taken n
Answers most taken (Err r) = Unit {0}

-- Each operation ends once: a step of a process that is doing nothing is never accepted.
abbrev pub Refuses : Response → Type 0
Refuses (Ok Answer.Begun) = ⊥
Refuses (Ok Answer.Going) = ⊥
Refuses (Ok (Answer.Read v t n)) = ⊥
Refuses (Ok (Answer.Written n)) = ⊥
Refuses (Ok (Answer.Asked t n)) = ⊥
Refuses (Err r) = Unit {0}

abbrev pub Counts : Doing → Response → Type 0
Counts nothing x = Refuses x
Counts (busy began o i taken) x = Answers (most_steps o) (suc taken) x

-- The next step of any process.
abbrev pub Counted : {S A : Type 0} → Machine S A → Run S → Type 0
Counted M r = (q : ℕ) → Counts (r.book.doing q) (M.step r.world.state q r.world.memory).answer

-- `cells` and `procs` are 1 or 0: their sums count the different cells and loaders.
abbrev pub pool_bound : Terms → Book → ℕ
pool_bound z b = 4 * sum b.cells z.m + 2 * sum b.procs z.p

abbrev pub PoolSpent : Terms → State → Book → Type 0
PoolSpent z s b = s.top ≤ pool_bound z b

-- "So a pool of 4 per cell plus 2 per loader never runs short."
abbrev pub PoolSuffices : Terms → State → Type 0
PoolSuffices z s = s.top ≤ 4 * z.m + 2 * z.p
