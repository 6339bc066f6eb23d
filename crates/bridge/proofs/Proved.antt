-- The grid is what is demanded: demands 2 and 3 after any calls, and all of it together.
-- Assumes nothing.
use Rattle.std.specs.Prelude.{ℕ, suc, ◌<◌, ◌≡◌, refl, ◌≢◌, Bool, true, false, not, ltb, Ok}
use Rattle.std.proofs.Common.{sym, ap, ◌∙◌, subst, arith}
use Rattle.logic.specs.Pick.{pick}
use Rattle.numbers.specs.Numbers.{fill_of}
use Rattle.numbers.specs.Cells.{cell_fits}
use Rattle.lanes.specs.Ranges.{lane_of}
use Rattle.acts.specs.Calls as Grid
use Rattle.acts.specs.Worlds.{world, grid, Call, begin, step, misfit, answer_to}
use Rattle.theory.proofs.Interface as Theory
use Rattle.demands.specs.Types.{Refusal, Terms, State, Memory, Next, Ask, Stepped}
use Rattle.demands.specs.Kinds.{writing}
use Rattle.demands.specs.Book.{Doing, nothing, busy, Book, Run}
use Rattle.demands.specs.Demand1.{refused, begins, steps, said}
use Rattle.demands.specs.Demand2.{UnderWay, OneOrder}
use Rattle.demands.specs.Demand3.{most_steps, Answers, Counts}
use Rattle.demands.specs.Demanded.{is_busy, expected, Meets, Demanded}
use Rattle.bridge.specs.Shadow.{lane_for, since_of}
use Rattle.bridge.proofs.Good.{Good, law, behind, does, few_steps, top_fits}
use Rattle.bridge.proofs.KeepStep.{doing_after, good_step}
use Rattle.bridge.specs.Refused.{answers, demand_1_holds}
use Rattle.bridge.proofs.Views.{Begins, refuses, accepts, begins_as, Steps, refuses_step, accepts_step, steps_as, misfits, GoodRun}
use Rattle.bridge.proofs.Runs.{after_any_calls}

module _ {s : State} {mem : Memory} {b : Book} (H : Good s mem b) where
  -- ---- demand 2

  pub under_way : (e : Theory.Entry) → Theory.Under (behind H).watch e → UnderWay b e
  under_way e u = by (b.doing e.who) refl
    where
      lane : (d : Doing) → b.doing e.who ≡ d → lane_for d (lane_of s e.who).op ≡ Theory.busy e.op e.cell u.stage
      lane d k = sym (ap (λ (d : Doing). lane_for d (lane_of s e.who).op) k) ∙ u.lane

      by : (d : Doing) → b.doing e.who ≡ d → UnderWay b e
      by nothing k = let l = lane nothing k in absurd (let y : ◌≡◌ {A = ℕ} 0 1 = cc in omega arith)
      by (busy began o i taken) k =
          let l = lane (busy began o i taken) k in
          let op : o ≡ e.op = cc in
          let cell : i ≡ e.cell = cc in
          let since : began ≡ e.began = sym (ap since_of k) ∙ u.since in
          record {
            taken = taken;
            doing = k ∙ ap (λ (x : ℕ). busy x o i taken) since ∙ ap (λ (x : Theory.Op). busy e.began x i taken) op
                ∙ ap (λ (x : ℕ). busy e.began e.op x taken) cell;
          }

  pub one_order : OneOrder (fill_of s.terms.first s.terms.step) b
  one_order = Theory.order_as (Theory.one_order (law H) H.whole)
      (λ e m p. record { under_way = under_way e p.under; writes = rw p.writes tt })

  -- ---- demand 3

  bounds : (o : Theory.Op) → Theory.bound o ≡ most_steps o
  bounds Theory.read = refl
  bounds Theory.asked = refl
  bounds (Theory.write v) = refl

  reports : (most n taken : ℕ) (nx : Next) → n ≡ taken → taken < most → ((o : _) → nx ≡ Next.Going o → suc taken < most)
      → Answers most (suc taken) (Ok (Grid.answer_of n nx))
  reports most n taken (Next.Going o) e h k = k o refl
  reports most n taken (Next.Read v t) e h k = (omega arith, omega arith)
  reports most n taken Next.Written e h k = (omega arith, omega arith)
  reports most n taken (Next.Asked t) e h k = (omega arith, omega arith)

  pub counted_steps : (q : ℕ) → Counts (b.doing q) (Grid.step_of s q mem).stepped.answer
  counted_steps q = by (steps_as H q)
    where
      to : Grid.Outcome → Type 0
      to x = Counts (b.doing q) x.stepped.answer

      by : Steps H q → to (Grid.step_of s q mem)
      by (refuses_step r e x d) = subst to (sym e) (rw d tt)
      by (accepts_step {began} {taken} {o} {i} d g e x) =
          subst to (sym e) (rw d
          (reports (most_steps o) (lane_of s q).steps taken g.next (does H q d).1 (rw (← bounds o) (few_steps H q d))
          (λ op k. rw (← bounds o)
          (few_steps (good_step H q d g).good q (Theory.upd_same b.doing q (doing_after began o i taken g.next) ∙ ap (doing_after began o i taken) k)))))

  -- ---- refusals

  pub refusals : (c : Call Ask s.terms) → said (answer_to grid (world s mem) c) ≡ expected writing b c
  refusals (begin q a) = by (begins_as H q a)
    where
      by : Begins H q a → said (Grid.begin_of s q a).answer ≡ expected writing {z = s.terms} b (begin q a)
      by (refuses r e x) = ap (λ (y : Stepped). said y.answer) e ∙ sym x
      by (accepts hq free hi e x) = ap (λ (y : Stepped). said y.answer) e ∙ sym x
  refusals (step q) = by (steps_as H q)
    where
      by : Steps H q → said (Grid.step_of s q mem).stepped.answer ≡ expected writing {z = s.terms} b (step q)
      by (refuses_step r e x d) = ap (λ (y : Grid.Outcome). said y.stepped.answer) e ∙ sym x
      by (accepts_step d g e x) = ap (λ (y : Grid.Outcome). said y.stepped.answer) e ∙ answers (lane_of s q).steps g.next ∙ sym x
  refusals (misfit q lent h) = ap (λ (y : Grid.Outcome). said y.stepped.answer) (misfits H q lent h)

-- 9 stands in no list of refusals in a run
expected_nine : {z : Terms} (b : Book) (c : Call Ask z) → expected writing b c ≢ refused Refusal.OutOfRange
expected_nine {z} b (begin q a) = by (not (ltb q z.p)) (is_busy (b.doing q)) (not (cell_fits z (Grid.cell_of a)))
  where
    by : (x y w : Bool)
        → pick x (refused Refusal.NoSuchProcess) (pick y (refused Refusal.UnderWay) (pick w (refused Refusal.NoSuchCell) begins)) ≢ refused Refusal.OutOfRange
    by true y w e = let k : ◌≡◌ {A = ℕ} 0 1 = cc in omega arith
    by false true w e = let k : ◌≡◌ {A = ℕ} 0 1 = cc in omega arith
    by false false true e = let k : ◌≡◌ {A = ℕ} 0 1 = cc in omega arith
    by false false false e = let k : ◌≡◌ {A = ℕ} 0 1 = cc in omega arith
expected_nine {z} b (step q) = by (not (ltb q z.p)) (not (is_busy (b.doing q)))
  where
    by : (x y : Bool) → pick x (refused Refusal.NoSuchProcess) (pick y (refused Refusal.NothingUnderWay) steps) ≢ refused Refusal.OutOfRange
    by true y e = let k : ◌≡◌ {A = ℕ} 0 1 = cc in omega arith
    by false true e = let k : ◌≡◌ {A = ℕ} 0 1 = cc in omega arith
    by false false e = let k : ◌≡◌ {A = ℕ} 0 1 = cc in omega arith
expected_nine b (misfit q lent h) = λ e. let k : ◌≡◌ {A = ℕ} 0 1 = cc in omega arith

-- ---- all of it, after any calls

meets : (r : Run State) → GoodRun r → Meets writing grid r.world.state.terms r
meets r H = record {
  agrees = record { same_terms = refl; lanes = H.agrees };
  one_order = one_order H;
  counted = counted_steps H;
  pool_spent = Theory.pool_bound_lem (law H) H.whole;
  pool_suffices = top_fits H;
  refusals = refusals H;
  never_nine = λ c e. expected_nine r.book c (sym (refusals H c) ∙ ap said e);
}

-- THE THEOREM
pub demanded : Demanded grid
demanded = record {
  demand_1 = demand_1_holds;
  by_the_list = record { opens = λ z mem. refl; begins = λ s q a. refl; steps = λ s q mem. refl };
  runs = λ z. after_any_calls z (Meets writing grid z) (λ r H. subst (λ (z : Terms). Meets writing grid z r) H.terms (meets r H.good));
}
