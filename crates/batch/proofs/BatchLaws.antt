-- Each case of an entry, and the loop over the entries, as laws of their definitions.
-- Assumes nothing.
use Rattle.std.specs.Prelude.{Option}
use Prim.Native.Nat.{ℕ, ◌+◌, ◌<◌, ◌≤◌, min}
use mathlib.Core.Path.{◌≡◌, refl, sym, ap, ◌∙◌}
use mathlib.Core.Bool.{Bool, true, false}
use mathlib.Core.List.{List}
use native.Mathlib.Decide.{ℕ_discrete}
use native.Mathlib.Omega.{arith}
use native.Mathlib.Numerals.{add-one}
use lib.Dec.{eqb}
use lib.ListN.{length, get_or, set, length-set}
use lib.Seq.{get_or-set_same, get_or-set_other}
use Rattle.numbers.specs.declared.Cell.{Cell}
use Rattle.logic.specs.Pick.{pick}
use Rattle.lanes.specs.declared.State.{State}
use Rattle.lanes.specs.Ranges.{lane_of, state_fits}
use Rattle.numbers.specs.declared.Terms.{Terms}
use Rattle.steps.specs.declared.Turn.{Turn}
use Rattle.steps.specs.Inner.{handed}
use Rattle.steps.specs.Steps.{turn_of}
use Rattle.steps.specs.Memory.{Memory}
use Rattle.acts.specs.declared.Acted.{Acted}
use Rattle.acts.specs.declared.Ask.TheVariants as Ask
use Rattle.acts.specs.declared.Stepped.{Stepped}
use Rattle.acts.specs.Calls.{cell_of, op_of, Outcome, outcome, Effect, effect, stepped_as, begun_of, begin_of, verdict_of, act_of, step_of}
use Rattle.acts.specs.Inner.{lane_at, changes, named}
use Rattle.acts.proofs.StateLaws.{begun_is, begun_kept, moved_kept, step_is}
use Rattle.batch.specs.Batch.{beginning, ask_of, entered, code_of, answer_of, Batch, batch, entering, onward, after, answer_at}
use Rattle.batch.specs.Batch.{Told, entries, batch_of, entry_of}
use Rattle.batch.specs.Kept.{begin_keeps, step_keeps}

-- the cell asked about is the entry's
asked_cell : (kind : ℕ) (i : Cell) (v : ℕ) → i ≡ cell_of (ask_of kind i v)
asked_cell kind i v = by (eqb kind 1) (eqb kind 2)
  where
    by : (a b : Bool) → i ≡ cell_of (pick a (Ask.Read i) (pick b (Ask.Write i v) (Ask.Asked i)))
    by true b = refl
    by false true = refl
    by false false = refl

-- an entry on the lane at k is the entry on the state
module _ (s : State) (q k : ℕ) (at : k ≡ lane_at q) (j : ℕ) (from : j ≡ lane_at (named (lane_of s k).op)) (fits : Bool) (e : fits ≡ state_fits s)
    (mem mem' : Memory) (kind : ℕ) (i : Cell) (v : ℕ) (b : Acted) where
  abbrev turn : Option Turn
  turn = turn_of s.terms s.top q (lane_of s k) (handed (lane_of s j).marks) mem

  abbrev Entry : Bool → Type 0
  Entry w =
      effect b mem'
      ≡ pick w
      (effect (begun_of fits s.terms s.top q (lane_of s k) i (op_of (ask_of kind i v))) mem)
      (act_of fits s.terms s.top q (lane_of s k) mem turn)

  out_by : (w : Bool) → Entry w → outcome (stepped_as s k b) mem' ≡ pick w (outcome (begin_of s q (ask_of kind i v)) mem) (step_of s q mem)
  out_by true f =
      let g = ap (λ (x : Effect). x.acted) f in
      let m : mem' ≡ mem = ap (λ (x : Effect). x.memory) f in
      rw (begun_is s q k at (lane_of s k) refl fits (ask_of kind i v) i (op_of (ask_of kind i v)) b e (asked_cell kind i v) refl g, m)
  out_by false f = step_is s q k at (lane_of s k) refl j (lane_of s j) from refl fits mem mem' b e f

  pub entry_is : Entry (beginning kind) → outcome (stepped_as s k b) mem' ≡ entered s mem kind q i v
  entry_is f = out_by (beginning kind) f

  -- where its answer is a refusal, the state is left as it was
  kept_by : (w : Bool) → Entry w → changes b.answer ≡ false → s ≡ (stepped_as s k b).state
  kept_by true f h =
      ap (λ (x : Stepped). x.state)
      (begun_kept s q k at (lane_of s k) refl fits i (op_of (ask_of kind i v)) b (ap (λ (x : Effect). x.acted) f) h)
  kept_by false f h =
      ap (λ (x : Stepped). x.state)
      (moved_kept s q k at (lane_of s k) refl (verdict_of fits s.terms s.top q (lane_of s k) mem turn) mem mem' b f h)

  pub entry_kept : Entry (beginning kind) → changes b.answer ≡ false → s ≡ (stepped_as s k b).state
  entry_kept f h = kept_by (beginning kind) f h

-- an entry keeps a state in its ranges there
pub entered_keeps : (s : State) (mem : Memory) (kind q : ℕ) (i : Cell) (v : ℕ) → state_fits (entered s mem kind q i v).stepped.state ≡ state_fits s
entered_keeps s mem kind q i v = by (beginning kind)
  where
    by : (w : Bool) → state_fits (pick w (outcome (begin_of s q (ask_of kind i v)) mem) (step_of s q mem)).stepped.state ≡ state_fits s
    by true = begin_keeps s q (ask_of kind i v)
    by false = step_keeps s q mem

-- the loop: the first i entries are done
module _ (kinds processes cells values : List ℕ) (s : State) (mem : Memory) (answers : List ℕ) where
  abbrev pub Done : ℕ → Batch → Type 0
  Done i b = b ≡ after kinds processes cells values (batch s mem answers) i

  pub done_none : Done 0 (batch s mem answers)
  unfolding after
  done_none = refl

  pub done_more : (i : ℕ) (t : State) (mem₁ mem₂ : Memory) (answers₁ : List ℕ) (k q kind v code : ℕ) (c : Cell) (b : Acted)
      → Done i (batch t mem₁ answers₁) → q ≡ get_or processes i 0 → kind ≡ get_or kinds i 0 → c ≡ record { 0 = get_or cells i 0 } → v ≡ get_or values i 0
      → outcome (stepped_as t k b) mem₂ ≡ entered t mem₁ kind q c v → code ≡ code_of b.answer
      → Done (i + 1) (batch (stepped_as t k b).state mem₂ (set answers₁ i code))
  unfolding after
  done_more i t mem₁ mem₂ answers₁ k q kind v code c b h eq ek ec ev out f =
      rw (add-one i)
      (ap (λ (x : ℕ). batch (stepped_as t k b).state mem₂ (set answers₁ i x)) f
      ∙ ap (λ (x : Outcome). batch x.stepped.state x.memory (set answers₁ i (code_of x.stepped.answer))) out'
      ∙ ap (λ (x : Batch). onward kinds processes cells values x i) h)
    where
      out' : outcome (stepped_as t k b) mem₂ ≡ entered t mem₁ (get_or kinds i 0) (get_or processes i 0) (record { 0 = get_or cells i 0 }) (get_or values i 0)
      out' = out ∙ rw (ek, eq, ec, ev)

  -- the answers so far come back from their words
  abbrev pub Back : ℕ → List ℕ → Type 0
  Back = Told kinds processes cells values (batch s mem answers)

  pub back_none : Back 0 answers
  back_none k h = absurd (let y : ⊥ = omega arith in y)

  pub back_more : (i code : ℕ) (words : List ℕ) → i < length words → Back i words
      → answer_of code ≡ answer_at kinds processes cells values (batch s mem answers) i
      → Back (i + 1) (set words i code)
  back_more i code words low h e k here = by (ℕ_discrete k i)
    where
      by : Dec (k ≡ i) → answer_of (get_or (set words i code) k 0) ≡ answer_at kinds processes cells values (batch s mem answers) k
      by (yes x) = rw x (ap answer_of (get_or-set_same words i code 0 low) ∙ e)
      by (no x) = ap answer_of (get_or-set_other words i k code 0 x) ∙ h k (omega (arith, here, x))

pub record Few (n : ℕ) (kinds processes cells values answers : List ℕ) : Type 0 where
  pub in_kinds : n ≤ length kinds
  pub in_processes : n ≤ length processes
  pub in_cells : n ≤ length cells
  pub in_values : n ≤ length values
  pub in_answers : n ≤ length answers

pub few_entries : (kinds processes cells values answers : List ℕ) → Few (entries kinds processes cells values answers) kinds processes cells values answers
few_entries kinds processes cells values answers =
    record { in_kinds = omega arith; in_processes = omega arith; in_cells = omega arith; in_values = omega arith; in_answers = omega arith }

-- what the loop keeps
pub record Going (kinds₀ processes₀ cells₀ values₀ answers₀ : List ℕ) (mem₀ : Memory) (s : State) (fits : Bool) (n : ℕ)
    (answers : List ℕ) (mem : Memory) (t : State) (i : ℕ) : Type 0 where
  pub at : i ≤ n
  pub few : Few n kinds₀ processes₀ cells₀ values₀ answers₀
  pub number : n ≡ entries kinds₀ processes₀ cells₀ values₀ answers₀
  pub same_answers : length answers ≡ length answers₀
  pub terms : t.terms ≡ s.terms
  pub fine : fits ≡ state_fits t
  pub done : Done kinds₀ processes₀ cells₀ values₀ s mem₀ answers₀ i
      (batch t mem answers)
  pub back : Back kinds₀ processes₀ cells₀ values₀ s mem₀ answers₀ i answers

module _ (kinds processes cells values answers₀ : List ℕ) (mem₀ : Memory) (s : State) (fits : Bool) (n : ℕ) where
  pub going_start : n ≡ entries kinds processes cells values answers₀ → fits ≡ state_fits s
      → Going kinds processes cells values answers₀ mem₀ s fits n answers₀ mem₀ s 0
  going_start e f = record {
    at = omega arith;
    few = rw e (few_entries kinds processes cells values answers₀);
    number = e;
    same_answers = refl;
    terms = refl;
    fine = f;
    done = done_none kinds processes cells values s mem₀ answers₀;
    back = back_none kinds processes cells values s mem₀ answers₀;
  }

  module _ (answers : List ℕ) (mem : Memory) (t : State) (i : ℕ)
      (G : Going kinds processes cells values answers₀ mem₀ s fits n answers mem t i) where
    -- what entry i does, by given terms
    abbrev Does : Terms → (k j : ℕ) (b : Acted) (mem' : Memory) → Type 0
    Does z k j b mem' =
        effect b mem'
        ≡ entry_of fits z t.top (get_or processes i 0) (lane_of t k) (lane_of t j).marks (get_or kinds i 0)
        (record { 0 = get_or cells i 0 }) (get_or values i 0) mem

    own_terms : (k j : ℕ) (b : Acted) (mem' : Memory) → Does s.terms k j b mem'
        → Does t.terms k j b mem'
    own_terms k j b mem' f = rw G.terms f

    pub going_more : (answers' : List ℕ) (mem' : Memory) (t' : State) (k j code : ℕ) (b : Acted)
        → t' ≡ (stepped_as t k b).state → i < n → k ≡ lane_at (get_or processes i 0) → j ≡ lane_at (named (lane_of t k).op)
        → Does s.terms k j b mem'
        → (code ≡ code_of b.answer) × (answer_of code ≡ b.answer) → answers' ≡ set answers i code
        → Going kinds processes cells values answers₀ mem₀ s fits n answers' mem' t' (i + 1)
    going_more answers' mem' t' k j code b et low at from f g ea = rw (ea, et) (record {
      at = omega arith;
      few = G.few;
      number = G.number;
      same_answers = length-set answers i code ∙ G.same_answers;
      terms = G.terms;
      fine =
          G.fine
          ∙ sym
          (ap (λ (x : Outcome). state_fits x.stepped.state) out
          ∙ entered_keeps t mem (get_or kinds i 0) (get_or processes i 0) (record { 0 = get_or cells i 0 })
          (get_or values i 0));
      done = done_more kinds processes cells values s mem₀ answers₀ i t mem
          mem' answers k (get_or processes i 0) (get_or kinds i 0) (get_or values i 0) code
          (record { 0 = get_or cells i 0 }) b
          G.done refl refl refl refl out g.0;
      back = back_more kinds processes cells values s mem₀ answers₀ i code answers
          (let a = G.few.in_answers in let b = G.same_answers in omega arith) G.back (g.1 ∙ given);
    })
      where
        out : outcome (stepped_as t k b) mem'
            ≡ entered t mem (get_or kinds i 0) (get_or processes i 0) (record { 0 = get_or cells i 0 }) (get_or values i 0)
        out = entry_is t (get_or processes i 0) k at j from fits G.fine mem mem'
            (get_or kinds i 0) (record { 0 = get_or cells i 0 }) (get_or values i 0) b (own_terms k j b mem' f)

        given : b.answer ≡ answer_at kinds processes cells values (batch s mem₀ answers₀) i
        given = ap (λ (x : Outcome). x.stepped.answer) out ∙ ap (λ (x : Batch). (entering kinds processes cells values x i).stepped.answer) G.done

    pub going_kept : (mem' : Memory) (k j : ℕ) (b : Acted) → k ≡ lane_at (get_or processes i 0) → j ≡ lane_at (named (lane_of t k).op)
        → Does s.terms k j b mem' → changes b.answer ≡ false → t ≡ (stepped_as t k b).state
    going_kept mem' k j b at from f h = entry_kept t (get_or processes i 0) k at j from fits G.fine mem mem' (get_or kinds i 0)
        (record { 0 = get_or cells i 0 }) (get_or values i 0) b (own_terms k j b mem' f) h

    pub going_end : n ≤ i
        → (batch t mem answers ≡ batch_of s mem₀ answers₀ kinds processes cells values)
        × Back kinds processes cells values s mem₀ answers₀ (entries kinds processes cells values answers₀) answers
    unfolding batch_of
    going_end h =
        let e : i ≡ entries kinds processes cells values answers₀ = let a = G.at in let b = G.number in omega arith in
        (G.done ∙ ap (after kinds processes cells values (batch s mem₀ answers₀)) e, rw (← e) G.back)

pub entries_are : (kinds processes cells values answers : List ℕ) (a b c n : ℕ) → a ≡ min (length kinds) (length processes)
    → b ≡ min (length cells) (length values) → c ≡ min a b → n ≡ min c (length answers) → n ≡ entries kinds processes cells values answers
entries_are kinds processes cells values answers a b c n e f g h = h ∙ rw (g, e, f)
