-- What each call comes to in a good state, and that the next run is good, its order grown.
-- Assumes nothing.
use Rattle.steps.specs.Steps.{makes}
use Rattle.std.specs.Prelude.{ℕ, ◌<◌, ◌≡◌, Bool, false, ltb, Ok, Err}
use Rattle.std.proofs.Math.Path.{refl}
use Rattle.std.proofs.Common.{sym, ap, ◌∙◌, subst, arith, get_or-set_same}
use Rattle.std.proofs.Math.Bool.{true}
use Rattle.std.proofs.Math.Decide.{dec_lt}
use borrow.Author.Tests.{lt-ltb, le-ltb, le-leb}
use Rattle.numbers.specs.Numbers.{pool_words}
use Rattle.numbers.specs.Cells.{cell_fits, index_of}
use Rattle.numbers.specs.CellLaws.{index_inside}
use Rattle.lanes.specs.Ranges.{rest, lane_of, idle, lane_fits, state_fits}
use Rattle.steps.specs.Changes.{top_after}
use Rattle.acts.specs.Calls as Grid
use Rattle.theory.proofs.Interface as Theory
use Rattle.demands.specs.Types.{Refusal, Terms, Op, Lane, State, Memory, Ask, Answer, Stepped, Verdict}
use Rattle.acts.specs.Lent.{lengths_fit_lem}
use Rattle.acts.specs.Worlds.{grid, Call, begin, step, misfit}
use Rattle.demands.specs.Book.{Doing, nothing, busy, Book, note_begin, note_step, Run, next}
use Rattle.demands.specs.Agrees.{Does, LaneAgrees}
use Rattle.demands.specs.Kinds.{ask_op, writing}
use Rattle.demands.specs.Demand1.{refused, begins, steps}
use Rattle.demands.specs.Demanded.{expected}
use Rattle.bridge.proofs.Good.{Good, Later, law, inside, at_work_lem, does, lane_fits_lem, top_fits, state_fits_lem}
use Rattle.bridge.proofs.Goes.{Goes}
use Rattle.bridge.proofs.Writes.{goes_on}
use Rattle.bridge.proofs.Keep.{good_pass, starts, begun_lane, good_begin}
use Rattle.bridge.proofs.KeepStep.{stepped_lane, stepped_state, stepped_memory, own, note_step_lem, good_step}
use Rattle.bridge.specs.Refused.{stays, returned}

pub works : (z : Terms) (o : Theory.Op) (i : ℕ) (op : Op) → Does z o i op → idle op ≡ false
works z Theory.read i (Op.Read j c) h = refl
works z Theory.read i (Op.Reading j) h = refl
works z Theory.asked i (Op.Asked j c) h = refl
works z (Theory.write v) i (Op.Store j w) h = refl
works z (Theory.write v) i (Op.Write j c) h = refl
works z (Theory.write v) i (Op.Marking j k) h = refl
works z _ i _ h = elim h [ ]

module _ {s : State} {mem : Memory} {b : Book} (H : Good s mem b) where
  abbrev call_begin : ℕ → Ask → Call Ask s.terms
  call_begin q a = begin q a

  abbrev call_step : ℕ → Call Ask s.terms
  call_step q = step q

  pub rests : (q : ℕ) → b.doing q ≡ nothing → idle (lane_of s q).op ≡ true
  rests q e = let h : LaneAgrees s.terms (lane_of s q) nothing = rw e at (H.agrees q) in ap idle h.0

  -- ---- begin

  module _ (q : ℕ) (a : Ask) where
    abbrev at : ℕ
    at = index_of s.terms (Grid.cell_of a)

    pub data Begins : Type 0 where
      refuses : (r : Refusal) → Grid.begin_of s q a ≡ stays s r → expected writing b (call_begin q a) ≡ refused r → Begins
      accepts : (hq : q < s.terms.p) (free : b.doing q ≡ nothing) (hi : at < s.terms.m)
          → Grid.begin_of s q a
          ≡ record {
            state = Grid.settled s q (begun_lane H q (ask_op a) at (Grid.op_of a) (starts s.terms a) hq free hi) s.top;
            answer = Ok Answer.Begun;
          }
          → expected writing b (call_begin q a) ≡ begins → Begins

    begun_refused : (r : Refusal)
        → Grid.begun_of (state_fits s) s.terms s.top q (lane_of s q) (Grid.cell_of a) (Grid.op_of a) ≡ Grid.refused_as (lane_of s q) s.top r
        → Grid.begin_of s q a ≡ stays s r
    begun_refused r e = ap (Grid.stepped_as s q) e ∙ returned s q r

    pub begins_as : Begins
    unfolding Grid.begun_of
    begins_as = by (dec_lt q s.terms.p) (b.doing q) refl (cell_fits s.terms (Grid.cell_of a)) refl
      where
        fits : state_fits s ≡ true
        fits = state_fits_lem H

        by : Dec (q < s.terms.p) → (d : Doing) → b.doing q ≡ d → (c : Bool) → cell_fits s.terms (Grid.cell_of a) ≡ c → Begins
        by (no x) d e c y =
            let k : ltb q s.terms.p ≡ false = le-ltb q s.terms.p (omega arith) in
            refuses Refusal.NoSuchProcess (begun_refused Refusal.NoSuchProcess (rw (fits, k))) (rw k)
        by (yes x) (busy began o i taken) e c y =
            let k = lt-ltb q s.terms.p x in
            refuses Refusal.UnderWay
            (begun_refused Refusal.UnderWay (rw (fits, k, works s.terms o i (lane_of s q).op (does H q e).0))) (rw (k, e))
        by (yes x) nothing e false y =
            let k = lt-ltb q s.terms.p x in
            refuses Refusal.NoSuchCell (begun_refused Refusal.NoSuchCell (rw (fits, k, rests q e, y))) (rw (k, e, y))
        by (yes x) nothing e true y =
            let k = lt-ltb q s.terms.p x in
            accepts x e (index_inside s.terms (Grid.cell_of a) y) (ap (Grid.stepped_as s q) (rw (fits, k, rests q e, y))) (rw (k, e, y))

  -- ---- step

  pub data Steps (q : ℕ) : Type 0 where
    refuses_step : (r : Refusal) → Grid.step_of s q mem ≡ Grid.outcome (stays s r) mem → expected writing b (call_step q) ≡ refused r
        → b.doing q ≡ nothing → Steps q
    accepts_step : {began taken : ℕ} {o : Theory.Op} {i : ℕ} (e : b.doing q ≡ busy began o i taken) (g : Goes H q o i (lane_of s q).op)
        → Grid.step_of s q mem
        ≡ Grid.outcome (record { state = stepped_state H q e g; answer = Ok (Grid.answer_of (lane_of s q).steps g.next) }) (stepped_memory H q e g)
        → expected writing b (call_step q) ≡ steps → Steps q

  abbrev judged : ℕ → Memory → Verdict
  judged q lent = Grid.verdict_of (state_fits s) s.terms s.top q (lane_of s q) lent (Grid.turn_in s q lent)

  pub refused_step : (q : ℕ) (lent : Memory) (r : Refusal) → judged q lent ≡ Err r → Grid.step_of s q lent ≡ Grid.outcome (stays s r) lent
  refused_step q lent r e =
      ap (λ (v : Verdict). Grid.outcome_as s q (Grid.effect_of (lane_of s q) s.top lent v)) e
      ∙ ap (λ (x : Stepped). Grid.outcome x lent) (returned s q r)

  module _ (q : ℕ) {began taken : ℕ} {o : Theory.Op} {i : ℕ} (e : b.doing q ≡ busy began o i taken) (g : Goes H q o i (lane_of s q).op) where
    numbers_fit_lem : Grid.numbers_fit s.terms s.top (lane_of s q) g.change g.next ≡ true
    numbers_fit_lem =
        rw (le-leb (top_after g.change s.top) (pool_words s.terms.p s.terms.m) (top_fits (good_step H q e g).good))
        (subst (λ (l : Lane). lane_fits s.terms l ≡ true)
        (get_or-set_same s.lanes q (stepped_lane H q e g) rest (inside H q (own H q e g))) (lane_fits_lem (good_step H q e g).good q))

    moved : judged q mem ≡ Ok (makes g.change g.next)
    unfolding Grid.verdict_of
    moved =
        rw (
          state_fits_lem H,
          lengths_fit_lem H.lengths,
          lt-ltb q s.terms.p (own H q e g),
          works s.terms o i (lane_of s q).op (does H q e).0,
          g.turned,
          numbers_fit_lem,
        )

  pub steps_as : (q : ℕ) → Steps q
  unfolding Grid.verdict_of
  steps_as q = by (dec_lt q s.terms.p) (b.doing q) refl
    where
      fits : state_fits s ≡ true
      fits = state_fits_lem H

      lent : Grid.lengths_fit s.terms mem ≡ true
      lent = lengths_fit_lem H.lengths

      by : Dec (q < s.terms.p) → (d : Doing) → b.doing q ≡ d → Steps q
      by (no x) nothing e =
          let k : ltb q s.terms.p ≡ false = le-ltb q s.terms.p (omega arith) in
          refuses_step Refusal.NoSuchProcess (refused_step q mem Refusal.NoSuchProcess (rw (fits, lent, k))) (rw k) e
      by (no x) (busy began o i taken) e = absurd (x (Theory.process_fits (law H) H.whole q (at_work_lem H q e)))
      by (yes x) nothing e =
          let k = lt-ltb q s.terms.p x in
          refuses_step Refusal.NothingUnderWay (refused_step q mem Refusal.NothingUnderWay (rw (fits, lent, k, rests q e))) (rw (k, e)) e
      by (yes x) (busy began o i taken) e =
          let g = goes_on H q e in
          accepts_step e g (ap (λ (v : Verdict). Grid.outcome_as s q (Grid.effect_of (lane_of s q) s.top mem v)) (moved q e g))
          (rw (lt-ltb q s.terms.p x, e))

  pub misfits : (q : ℕ) (lent : Memory) → Grid.lengths_fit s.terms lent ≡ false
      → Grid.step_of s q lent ≡ Grid.outcome (stays s Refusal.OtherLengths) lent
  unfolding Grid.verdict_of
  misfits q lent h = refused_step q lent Refusal.OtherLengths (rw (state_fits_lem H, h))

-- ---- the next run

abbrev pub GoodRun : Run State → Type 0
GoodRun r = Good r.world.state r.world.memory r.book

-- A later run, with an order grown from this one's.
abbrev pub LaterRun : {r : Run State} → GoodRun r → Run State → Type 0
LaterRun H r = Later H r.world.state r.world.memory r.book

pub good_next : (r : Run State) (H : GoodRun r) (c : Call Ask r.world.state.terms) → LaterRun {r = r} H (next writing grid r c)
good_next r H (begin q a) = by (begins_as H q a)
  where
    to : Stepped → Type 0
    to x = Later H x.state r.world.memory (note_begin r.book q (ask_op a) (index_of r.world.state.terms (Grid.cell_of a)) x.answer)

    by : Begins H q a → to (Grid.begin_of r.world.state q a)
    by (refuses k e x) = subst to (sym e) (good_pass H)
    by (accepts hq free hi e x) =
        subst to (sym e) (good_begin H q (ask_op a) (index_of r.world.state.terms (Grid.cell_of a)) (Grid.op_of a)
        (starts r.world.state.terms a) hq free hi)
good_next r H (step q) = by (steps_as H q)
  where
    to : Grid.Outcome → Type 0
    to x = Later H x.stepped.state x.memory (note_step r.book q x.stepped.answer)

    by : Steps H q → to (Grid.step_of r.world.state q r.world.memory)
    by (refuses_step k e x y) = subst to (sym e) (good_pass H)
    by (accepts_step d g e x) =
        subst to (sym e)
        (subst (Later H (stepped_state H q d g) (stepped_memory H q d g))
        (sym (note_step_lem r.book q (lane_of r.world.state q).steps g.next d)) (good_step H q d g))
good_next r H (misfit q lent h) = subst to (sym (misfits H q lent h)) (good_pass H)
  where
    to : Grid.Outcome → Type 0
    to x = Later H x.stepped.state r.world.memory (note_step r.book q x.stepped.answer)
