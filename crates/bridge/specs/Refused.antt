-- Demand 1 holds: the tables, and that a refusal changes nothing, in any state and memory.
-- Assumes nothing.
use Rattle.std.specs.Prelude.{ℕ, refl, Bool, true, false, not, List, [], ◌∷◌, Ok, Err, Option, None, Some}
use Rattle.std.proofs.Math.Path.{◌≡◌, ap}
use Rattle.std.proofs.Common.{sym, ◌∙◌, arith}
use Rattle.refusals.specs.Orders.{Rule, orders}
use Rattle.refusals.specs.Laws.{orders_then}
use Rattle.logic.specs.Pick.{pick}
use Rattle.lanes.specs.Ranges.{lane_of, state_fits}
use Rattle.acts.specs.Calls as Grid
use Rattle.demands.specs.Types.{Refusal, Cell, Terms, Op, State, Memory, Next, Turn, Opening, Stepped, Acted, Verdict}
use Rattle.acts.specs.Settled.{put_back}
use Rattle.acts.specs.Worlds.{Reply, Result, grid}
use Rattle.demands.specs.Kinds.{writing}
use Rattle.demands.specs.Demand1.{refused, begins, steps, said, begin_table, step_table, word_table, Demand1}

-- ---- orders of refusals

orders_all : {A : Type 0} (P : A → Type 0) (refuse : Refusal → A) (rules : List Rule) (work : A) → ((r : Refusal) → P (refuse r)) → P work
    → P (orders refuse rules work)
orders_all P refuse [] work refuses works = works
orders_all P refuse (r ∷ rs) work refuses works = by r.when (orders_all P refuse rs work refuses works)
  where
    by : (t : Bool) → P (orders refuse rs work) → P (pick t (refuse r.gives) (orders refuse rs work))
    by true h = refuses r.gives
    by false h = h

-- a lane put back where it was
abbrev pub stays : State → Refusal → Stepped
stays s r = record { state = s; answer = Err r }

pub returned : (s : State) (q : ℕ) (r : Refusal) → Grid.stepped_as s q (Grid.refused_as (lane_of s q) s.top r) ≡ stays s r
returned s q r = ap (λ (x : State). stays x r) (put_back s q)

-- ---- begin, of any operation on any cell

module _ (s : State) (q : ℕ) (i : Cell) (op : Op) where
  abbrev begins_with : Acted
  begins_with = Grid.begun_of (state_fits s) s.terms s.top q (lane_of s q) i op

  pub begin_by_table : said begins_with.answer ≡ orders refused (begin_table s q i) begins
  unfolding Grid.begun_of
  begin_by_table = orders_then (λ (x : Acted). said x.answer) (Grid.refused_as (lane_of s q) s.top) (begin_table s q i) _

  pub begin_returns : (r : Refusal) → begins_with.answer ≡ Err r → Grid.stepped_as s q begins_with ≡ stays s r
  unfolding Grid.begun_of
  begin_returns r =
      orders_all (λ (x : Acted). x.answer ≡ Err r → Grid.stepped_as s q x ≡ stays s r) (Grid.refused_as (lane_of s q) s.top) (begin_table s q i) _
      (λ k e. let same : k ≡ r = cc in returned s q k ∙ ap (stays s) same)
      (λ e. absurd (let y : ◌≡◌ {A = ℕ} 0 1 = cc in omega arith))

-- ---- step, by any turn

pub answers : (n : ℕ) (next : Next) → said (Ok (Grid.answer_of n next)) ≡ steps
answers n (Next.Going o) = refl
answers n (Next.Read v t) = refl
answers n Next.Written = refl
answers n (Next.Asked t) = refl

no_refusal : (n : ℕ) (next : Next) (r : Refusal) → Ok (Grid.answer_of n next) ≡ Err r → ⊥
no_refusal n next r e = let k : steps ≡ refused r = sym (answers n next) ∙ ap said e in let y : ◌≡◌ {A = ℕ} 0 1 = cc in omega arith

module _ (s : State) (q : ℕ) (mem : Memory) (t : Option Turn) where
  abbrev after : Verdict → Grid.Effect
  after v = Grid.effect_of (lane_of s q) s.top mem v

  decided_by_table : (u : Option Turn) → said (after (Grid.decided s.terms s.top (lane_of s q) u)).acted.answer ≡ orders refused (word_table s q u) steps
  decided_by_table None = refl
  decided_by_table (Some u) = by (Grid.numbers_fit s.terms s.top (lane_of s q) u.change u.next)
    where
      by : (t : Bool) → said (after (pick (not t) (Err Refusal.OutOfRange) (Ok u))).acted.answer
          ≡ pick (not t) (refused Refusal.OutOfRange) steps
      by true = answers (lane_of s q).steps u.next
      by false = refl

  pub step_by_table : said (Grid.step_by s q mem t).stepped.answer ≡ orders refused (step_table s q mem) (orders refused (word_table s q t) steps)
  unfolding Grid.verdict_of
  step_by_table =
      orders_then (λ (v : Verdict). said (after v).acted.answer) Err (step_table s q mem) _
      ∙ ap (orders refused (step_table s q mem)) (decided_by_table t)

  pub step_returns : (r : Refusal) → (Grid.step_by s q mem t).stepped.answer ≡ Err r → Grid.step_by s q mem t ≡ Grid.outcome (stays s r) mem
  step_returns r = by (Grid.verdict_of (state_fits s) s.terms s.top q (lane_of s q) mem t)
    where
      by : (v : Verdict) → (after v).acted.answer ≡ Err r → Grid.outcome_as s q (after v) ≡ Grid.outcome (stays s r) mem
      by (Err k) e = let same : k ≡ r = cc in ap (λ (x : Stepped). Grid.outcome x mem) (returned s q k ∙ ap (stays s) same)
      by (Ok u) e = absurd (no_refusal (lane_of s q).steps u.next r e)

-- ---- the three calls

opening_is : (z : Terms) (o : Opening) → (Grid.opened_as z o).opening ≡ o
opening_is z (Ok tt) = refl
opening_is z (Err r) = refl

opens_by_table : (z : Terms) (mem : Memory) → (Grid.open_of z mem).opening ≡ orders Err (Grid.open_refusals z mem) (Ok tt)
unfolding Grid.opening_of
opens_by_table z mem = opening_is z _

abbrev pub replied : Stepped → Reply State
replied x = record { state = x.state; answer = x.answer }

abbrev pub resulted : Grid.Outcome → Result State
resulted x = record { state = x.stepped.state; answer = x.stepped.answer; memory = x.memory }

pub demand_1_holds : Demand1 writing grid
demand_1_holds = record {
  open_table = opens_by_table;
  begin_table_lem = λ s q a. begin_by_table s q (Grid.cell_of a) (Grid.op_of a);
  step_table_lem = λ s q mem. step_by_table s q mem (Grid.turn_in s q mem);
  begin_refused = λ s q a r e. ap replied (begin_returns s q (Grid.cell_of a) (Grid.op_of a) r e);
  step_refused = λ s q mem r e. ap resulted (step_returns s q mem (Grid.turn_in s q mem) r e);
}
