-- An entry of a batch is a call: the batch's fold is the one fold of calls, and its answers are theirs.
-- Assumes nothing.
use Prim.Native.Nat.{ℕ, zero, suc}
use Rattle.std.specs.Prelude.{◌≡◌, Bool, true, false, List, [], ◌∷◌, ◌++◌, get_or}
use Rattle.std.proofs.Math.Path.{refl, sym, ap}
use Rattle.std.proofs.Common.{◌∙◌}
use Rattle.numbers.specs.declared.Cell.{Cell}
use Rattle.numbers.specs.declared.Terms.{Terms}
use Rattle.logic.specs.Pick.{pick}
use Rattle.lanes.specs.declared.State.{State}
use Rattle.acts.specs.declared.Ask.{Ask}
use Rattle.acts.specs.Calls.{Outcome, outcome, begin_of, step_of}
use Rattle.acts.specs.Worlds.{grid, Call, begin, step, World, world, answer_to, world_after}
use Rattle.acts.specs.WorldLaws.{after_both}
use Rattle.acts.specs.Worlds as Worlds
use Rattle.batch.specs.Batch.{beginning, ask_of, entered, Batch, entering, after, answer_at}

abbrev pub call_of : {z : Terms} → ℕ → ℕ → Cell → ℕ → Call Ask z
call_of kind q i v = pick (beginning kind) (begin q (ask_of kind i v)) (step q)

-- What an outcome leaves, and what a batch has come to.
abbrev pub left : Outcome → World State
left o = world o.stepped.state o.memory

abbrev pub world_of : Batch → World State
world_of b = world b.state b.memory

-- An entry leaves what its call leaves, and answers what its call answers.
module _ (z : Terms) (w : World State) (kind q : ℕ) (i : Cell) (v : ℕ) where
  abbrev call : Bool → Call Ask z
  call b = pick b (begin q (ask_of kind i v)) (step q)

  abbrev ended : Bool → Outcome
  ended b = pick b (outcome (begin_of w.state q (ask_of kind i v)) w.memory) (step_of w.state q w.memory)

  pub entered_leaves : left (entered w.state w.memory kind q i v) ≡ world_after grid w (call_of {z = z} kind q i v)
  entered_leaves = by (beginning kind)
    where
      by : (b : Bool) → left (ended b) ≡ world_after grid w (call b)
      by true = refl
      by false = refl

  pub entered_answers : (entered w.state w.memory kind q i v).stepped.answer ≡ answer_to grid w (call_of {z = z} kind q i v)
  entered_answers = by (beginning kind)
    where
      by : (b : Bool) → (ended b).stepped.answer ≡ answer_to grid w (call b)
      by true = refl
      by false = refl

-- The calls of the first n entries; what the entries leave is what these calls leave, and entry k answers what its call answers there.
module _ (z : Terms) (kinds processes cells values : List ℕ) where
  abbrev pub call_at : ℕ → Call Ask z
  call_at k = call_of (get_or kinds k 0) (get_or processes k 0) (record { 0 = get_or cells k 0 }) (get_or values k 0)

  unfoldable pub calls : ℕ → List (Call Ask z)
  calls zero = []
  calls (suc n) = calls n ++ (call_at n ∷ [])

  module _ (b : Batch) (k : ℕ) where
    pub entering_leaves : left (entering kinds processes cells values b k) ≡ world_after grid (world_of b) (call_at k)
    entering_leaves = entered_leaves z (world_of b) (get_or kinds k 0) (get_or processes k 0) (record { 0 = get_or cells k 0 }) (get_or values k 0)

    pub entering_answers : (entering kinds processes cells values b k).stepped.answer ≡ answer_to grid (world_of b) (call_at k)
    entering_answers = entered_answers z (world_of b) (get_or kinds k 0) (get_or processes k 0) (record { 0 = get_or cells k 0 }) (get_or values k 0)

  pub after_calls_lem : (b : Batch) (n : ℕ) → world_of (after kinds processes cells values b n) ≡ Worlds.after grid (world_of b) (calls n)
  unfolding after calls Worlds.after
  after_calls_lem b zero = refl
  after_calls_lem b (suc n) =
      entering_leaves (after kinds processes cells values b n) n
      ∙ ap (λ (x : World State). world_after grid x (call_at n)) (after_calls_lem b n)
      ∙ sym (after_both grid (world_of b) (calls n) (call_at n ∷ []))

  pub answer_call : (b : Batch) (k : ℕ) → answer_at kinds processes cells values b k ≡ answer_to grid (Worlds.after grid (world_of b) (calls k)) (call_at k)
  answer_call b k =
      entering_answers (after kinds processes cells values b k) k ∙ ap (λ (x : World State). answer_to grid x (call_at k)) (after_calls_lem b k)
