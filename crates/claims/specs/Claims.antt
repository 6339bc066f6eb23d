-- What is claimed of open, begin and step in any state and memory. Definitions only: the modules below it have the proofs.
-- Assumes nothing.
use Rattle.std.specs.Prelude.{ℕ, ◌<◌, ◌≡◌, ◌≢◌, true, length, get_or, Err}
use Rattle.logic.specs.Determined.{Determined}
use Rattle.numbers.specs.Numbers.{directory_word}
use Rattle.numbers.specs.declared.Terms.{Terms}
use Rattle.refusals.specs.declared.Refusal.{Refusal}
use Rattle.lanes.specs.declared.State.{State}
use Rattle.lanes.specs.Ranges.{lane_of, state_fits}
use Rattle.steps.specs.declared.Change.{Change}
use Rattle.steps.specs.declared.Next.{Next}
use Rattle.steps.specs.Memory.{Memory}
use Rattle.steps.specs.Changes.{lane_after, top_after}
use Rattle.acts.specs.declared.Ask.{Ask}
use Rattle.acts.specs.declared.Stepped.{Stepped}
use Rattle.acts.specs.declared.Opened.{Opened}
use Rattle.acts.specs.Calls as Calls
use Rattle.acts.specs.Calls.{fresh, open_of, begin_of, outcome, turn_in, step_of, settled, advance, numbers_fit}
use Rattle.steps.specs.declared.Word.{Word}
use Rattle.steps.specs.Touched.{touched}
use Rattle.claims.specs.Words.{word_at, past_check}

-- ONE OUTCOME: any two outcomes that meet the promise of a call coincide.
abbrev pub OneOpening : Type 0
OneOpening = (z : Terms) (mem : Memory) → Determined (λ (r : Opened). r ≡ open_of z mem)

abbrev pub OneBeginning : Type 0
OneBeginning = (s : State) (q : ℕ) (a : Ask) → Determined (λ (r : Stepped). r ≡ begin_of s q a)

abbrev pub OneStep : Type 0
OneStep =
    (s : State) (q : ℕ) (mem : Memory) (r r' : Stepped) (after after' : Memory) → outcome r after ≡ step_of s q mem
    → outcome r' after' ≡ step_of s q mem → (r ≡ r') × (after ≡ after')

-- HARMLESS: a refused call returns the state as received and leaves every lent word as it was. (Open and begin are lent nothing to write to.)
abbrev pub closed : State
closed = fresh Calls.closed

abbrev pub RefusedOpen : Type 0
RefusedOpen = (z : Terms) (mem : Memory) (r : Refusal) → (open_of z mem).opening ≡ Err r → (open_of z mem).state ≡ closed

-- Every call on the closed state is refused with 9.
abbrev pub ClosedBegin : Type 0
ClosedBegin = (q : ℕ) (a : Ask) → begin_of closed q a ≡ record { state = closed; answer = Err Refusal.OutOfRange }

abbrev pub ClosedStep : Type 0
ClosedStep = (q : ℕ) (mem : Memory) → step_of closed q mem ≡ outcome (record { state = closed; answer = Err Refusal.OutOfRange }) mem

abbrev pub RefusedBegin : Type 0
RefusedBegin = (s : State) (q : ℕ) (a : Ask) (r : Refusal) → (begin_of s q a).answer ≡ Err r → (begin_of s q a).state ≡ s

abbrev pub RefusedStep : Type 0
RefusedStep =
    (s : State) (q : ℕ) (mem : Memory) (r : Refusal) → (step_of s q mem).stepped.answer ≡ Err r
    → ((step_of s q mem).stepped.state ≡ s) × ((step_of s q mem).memory ≡ mem)

-- ONE WORD: a step changes at most the one shared word that it touches (with the pool's top goes the count of drawn segments) and
-- nothing of another lane.
pub record Changed (q : ℕ) (word : Word) (s s' : State) (mem mem' : Memory) : Type 0 where
  pub others : (w : Word) → w ≢ word → word_at s' mem' w ≡ word_at s mem w
  pub drawn : word ≢ Word.Top → (lane_of s' q).drawn ≡ (lane_of s q).drawn
  pub lanes : (r : ℕ) → r ≢ q → lane_of s' r ≡ lane_of s r
  pub terms : s'.terms ≡ s.terms
  pub lent : (length mem'.readings ≡ length mem.readings) × (length mem'.links ≡ length mem.links)
      × (length mem'.directory ≡ length mem.directory) × (length mem'.pool ≡ length mem.pool)

abbrev pub ChangesOneWord : Type 0
ChangesOneWord =
    (s : State) (q : ℕ) (mem : Memory)
    → Changed q (touched s.terms q mem.directory (lane_of s q).op) s (step_of s q mem).stepped.state mem (step_of s q mem).memory

-- ONE SIGHT: a step sees one shared word. Two worlds that agree on it, on the process's own lane, on p and the fill rule, on the pool's length
-- and, in rules 3 to 8, on its own directory words, have the same turn. (The number of cells has no part in it.)
pub record Alike (q : ℕ) (s s' : State) (mem mem' : Memory) : Type 0 where
  pub p : s.terms.p ≡ s'.terms.p
  pub first : s.terms.first ≡ s'.terms.first
  pub step : s.terms.step ≡ s'.terms.step
  pub lane : lane_of s q ≡ lane_of s' q
  pub pool : length mem.pool ≡ length mem'.pool
  pub word :
      word_at s mem (touched s.terms q mem.directory (lane_of s q).op)
      ≡ word_at s' mem' (touched s.terms q mem.directory (lane_of s q).op)
  pub own : past_check (lane_of s q).op ≡ true → (k : ℕ) → get_or mem.directory (directory_word q k) 0 ≡ get_or mem'.directory (directory_word q k) 0

abbrev pub SeesOneWord : Type 0
SeesOneWord = (q : ℕ) (s s' : State) (mem mem' : Memory) → Alike q s s' mem mem' → turn_in s q mem ≡ turn_in s' q mem'

-- NEW NUMBERS: the test on what a step would change is the test on the whole state after it.
abbrev pub NewNumbers : Type 0
NewNumbers =
    (s : State) (q : ℕ) (change : Change) (next : Next) → state_fits s ≡ true → q < s.terms.p → q < length s.lanes
    → numbers_fit s.terms s.top (lane_of s q) change next
    ≡ state_fits (settled s q (advance next (lane_after change (lane_of s q))) (top_after change s.top))
