-- A list of begins and steps on one grid: the fold of the definitions of begin and step.
-- Assumes nothing.
use Rattle.std.specs.Prelude.{ℕ, zero, suc, ◌+◌, ◌*◌, ◌/◌, ◌%◌, ◌<◌, min, ◌≡◌, Bool, true, false, ◌&&◌, List, leb, eqb, length, get_or, set, Ok, Err}
use Rattle.numbers.specs.declared.Cell.{Cell}
use Rattle.refusals.specs.Numbers.{number_of, refusal_of}
use Rattle.logic.specs.Pick.{pick}
use Rattle.lanes.specs.declared.Lane.{Lane}
use Rattle.lanes.specs.declared.State.{State}
use Rattle.numbers.specs.declared.Terms.{Terms}
use Rattle.steps.specs.Inner.{handed}
use Rattle.steps.specs.Steps.{turn_of}
use Rattle.steps.specs.Memory.{Memory}
use Rattle.acts.specs.declared.Ask.{Ask}
use Rattle.acts.specs.declared.Answer.{Answer}
use Rattle.acts.specs.Calls.{op_of, begin_of, begun_of, Effect, effect, act_of, Outcome, outcome, step_of, Response}

-- An entry of kind 1 begins a read, 2 a write, 3 an asked; one of any other kind is a step.
abbrev pub beginning : ℕ → Bool
beginning kind = leb 1 kind && leb kind 3

abbrev pub ask_of : ℕ → Cell → ℕ → Ask
ask_of kind i v = pick (eqb kind 1) (Ask.Read i) (pick (eqb kind 2) (Ask.Write i v) (Ask.Asked i))

abbrev pub entered : State → Memory → ℕ → ℕ → Cell → ℕ → Outcome
entered s mem kind q i v = pick (beginning kind) (outcome (begin_of s q (ask_of kind i v)) mem) (step_of s q mem)

-- An answer as a word: its kind, 256 times its steps or its refusal's number, 2^16 for a read of a written cell, 2^32 times its
-- value.
abbrev pub code_with : ℕ → ℕ → ℕ → ℕ
code_with kind count value = kind + 256 * count + 4294967296 * value

abbrev pub bit : Bool → ℕ
bit true = 1
bit false = 0

abbrev pub count_of : Bool → ℕ → ℕ
count_of b n = n + 256 * bit b

abbrev pub code_of : Response → ℕ
code_of (Ok Answer.Begun) = code_with 0 0 0
code_of (Ok Answer.Going) = code_with 1 0 0
code_of (Ok (Answer.Read v b n)) = code_with 2 (count_of b n) v
code_of (Ok (Answer.Written n)) = code_with 3 n 0
code_of (Ok (Answer.Asked b n)) = code_with 4 n (bit b)
code_of (Err r) = code_with 5 (number_of r) 0

-- And back: the answer that a word says.
abbrev pub answer_as : ℕ → ℕ → ℕ → ℕ → Response
answer_as kind count flag value =
    pick (eqb kind 0) (Ok Answer.Begun)
    (pick (eqb kind 1) (Ok Answer.Going)
    (pick (eqb kind 2) (Ok (Answer.Read value (eqb flag 1) count))
    (pick (eqb kind 3) (Ok (Answer.Written count))
    (pick (eqb kind 4) (Ok (Answer.Asked (eqb value 1) count))
    (Err (refusal_of count))))))

unfoldable pub answer_of : ℕ → Response
answer_of w = answer_as (w % 256) (w / 256 % 256) (w / 65536 % 256) (w / 4294967296)

-- What the entries leave: the state, the memories and the words of the answers.
pub record Batch : Type 0 where
  pub state : State
  pub memory : Memory
  pub answers : List ℕ

abbrev pub batch : State → Memory → List ℕ → Batch
batch s mem answers = record { state = s; memory = mem; answers = answers }

abbrev pub answered : Batch → ℕ → Outcome → Batch
answered b k o = batch o.stepped.state o.memory (set b.answers k (code_of o.stepped.answer))

-- Entry k, and the first n entries, one after the other.
module _ (kinds processes cells values : List ℕ) where
  abbrev pub entering : Batch → ℕ → Outcome
  entering b k = entered b.state b.memory (get_or kinds k 0) (get_or processes k 0) (record { 0 = get_or cells k 0 }) (get_or values k 0)

  abbrev pub onward : Batch → ℕ → Batch
  onward b k = answered b k (entering b k)

  unfoldable pub after : Batch → ℕ → Batch
  after b zero = b
  after b (suc n) = onward (after b n) n

  -- Each of the first n answers comes back from its word.
  abbrev pub answer_at : Batch → ℕ → Response
  answer_at b k = (entering (after b k) k).stepped.answer

  abbrev pub Told : Batch → ℕ → List ℕ → Type 0
  Told b n answers = (k : ℕ) → k < n → answer_of (get_or answers k 0) ≡ answer_at b k

-- As many entries as the shortest of the lists has.
abbrev pub entries : List ℕ → List ℕ → List ℕ → List ℕ → List ℕ → ℕ
entries kinds processes cells values answers =
    min (min (min (length kinds) (length processes)) (min (length cells) (length values))) (length answers)

unfoldable pub batch_of : State → Memory → List ℕ → List ℕ → List ℕ → List ℕ → List ℕ → Batch
batch_of s mem answers kinds processes cells values =
    after kinds processes cells values (batch s mem answers) (entries kinds processes cells values answers)

-- An entry on the lane of its process, where the state's numbers are known to fit or not.
abbrev pub entry_of : Bool → Terms → ℕ → ℕ → Lane → ℕ → ℕ → Cell → ℕ → Memory → Effect
entry_of fits z top q l seen kind i v mem =
    pick (beginning kind)
    (effect (begun_of fits z top q l i (op_of (ask_of kind i v))) mem)
    (act_of fits z top q l mem (turn_of z top q l (handed seen) mem))
