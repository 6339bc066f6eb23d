-- Every call keeps a state in its ranges there, and a state out of them as it is.
-- Assumes nothing.
use Rattle.std.specs.Prelude.{ℕ, ◌≡◌, refl, Bool, true, false, not, leb, ltb, Option, None, Some, Ok, Err}
use Rattle.std.proofs.Math.Path.{sym}
use Rattle.std.proofs.Common.{ap, ◌∙◌, arith, le-leb, ltb-true}
use Rattle.numbers.specs.Numbers.{pool_words, most_marks, most_segments}
use Rattle.logic.specs.Truth.{and_left, and_right}
use Rattle.logic.specs.Pick.{pick}
use Rattle.refusals.specs.declared.Refusal.{Refusal}
use Rattle.numbers.specs.Cells.{cell_fits}
use Rattle.lanes.specs.declared.Lane.{Lane}
use Rattle.lanes.specs.declared.State.{State}
use Rattle.lanes.specs.Ranges.{lane_of, idle, op_fits, lane_fits, state_fits}
use Rattle.lanes.specs.Laws.{sized, lane_ok, sizes_of, lane_of_lem}
use Rattle.numbers.specs.declared.Terms.{Terms}
use Rattle.steps.specs.declared.Turn.{Turn}
use Rattle.steps.specs.Memory.{Memory}
use Rattle.steps.specs.Changes.{lane_after, top_after}
use Rattle.acts.specs.declared.Ask.{Ask}
use Rattle.acts.specs.declared.Acted.{Acted}
use Rattle.acts.specs.declared.Answer.TheVariants as Answer
use Rattle.acts.specs.Calls.{Verdict}
use Rattle.acts.specs.Settled.{put_back, settled_fits}
use Rattle.acts.specs.Calls.{lengths_fit, cell_of, op_of, with_op, refused_as, settled, begun_of, begin_of, advance, numbers_fit, decided, verdict_of}
use Rattle.acts.specs.Calls.{effect_of, outcome_as, step_by, turn_in, step_of}

top_fits : (s : State) → state_fits s ≡ true → leb s.top (pool_words s.terms.p s.terms.m) ≡ true
top_fits s fine = le-leb _ _ (sized s.terms s.top (sizes_of s fine)).top_high

-- an operation just begun is in its ranges
begun_op : (z : Terms) (a : Ask) → cell_fits z (cell_of a) ≡ true → op_fits z 0 (op_of a) ≡ true
begun_op z (Ask.Read i) h = rw h
begun_op z (Ask.Write i v) h = rw h
begun_op z (Ask.Asked i) h = rw h

module _ (s : State) (q : ℕ) (a : Ask) where
  back : state_fits (settled s q (lane_of s q) s.top) ≡ state_fits s
  back = ap state_fits (put_back s q)

  abbrev begun : Lane
  begun = with_op (lane_of s q) 0 (op_of a)

  abbrev refuse : Refusal → Acted
  refuse = refused_as (lane_of s q) s.top

  abbrev acted : Bool → Bool → Bool → Bool → Acted
  acted w x y z =
      pick (not w) (refuse Refusal.OutOfRange)
      (pick (not x) (refuse Refusal.NoSuchProcess)
      (pick (not y) (refuse Refusal.UnderWay)
      (pick (not z) (refuse Refusal.NoSuchCell)
      (record { lane = begun; top = s.top; answer = Ok Answer.Begun }))))

  cases : (w x y z : Bool)
      → (w ≡ true → x ≡ true → z ≡ true → state_fits (settled s q begun s.top) ≡ state_fits s)
      → state_fits (settled s q (acted w x y z).lane (acted w x y z).top) ≡ state_fits s
  cases false x y z h = back
  cases true false y z h = back
  cases true true false z h = back
  cases true true true false h = back
  cases true true true true h = h refl refl refl

  fresh : state_fits s ≡ true → ltb q s.terms.p ≡ true → cell_fits s.terms (cell_of a) ≡ true → lane_fits s.terms begun ≡ true
  fresh e f h =
      let ok = lane_ok s.terms (lane_of s q) (lane_of_lem s e q (ltb-true _ _ f)) in
      rw (le-leb (lane_of s q).marks (most_marks s.terms.m) ok.marks, le-leb (lane_of s q).drawn most_segments ok.drawn)
      (begun_op s.terms a h)

  pub begin_keeps : state_fits (begin_of s q a).state ≡ state_fits s
  unfolding begun_of
  begin_keeps =
      cases (state_fits s) (ltb q s.terms.p) (idle (lane_of s q).op) (cell_fits s.terms (cell_of a))
      (λ e f h. settled_fits s q _ s.top e (fresh e f h) (top_fits s e) ∙ sym e)

-- a turn that is carried out is within the ranges
moves_within : (z : Terms) (top : ℕ) (l : Lane) (t : Option Turn) (u : Turn) → decided z top l t ≡ Ok u → numbers_fit z top l u.change u.next ≡ true
moves_within z top l None u e = let y : ◌≡◌ {A = ℕ} 0 1 = cc in absurd (omega arith)
moves_within z top l (Some t) u e = by (numbers_fit z top l t.change t.next) refl
  where
    by : (b : Bool) → numbers_fit z top l t.change t.next ≡ b → numbers_fit z top l u.change u.next ≡ true
    by true h =
        let v : Ok t ≡ Ok u = sym (rw h refl) ∙ e in
        let x : t ≡ u = cc in
        rw (← x) h
    by false h = let v : Err Refusal.OutOfRange ≡ Ok u = sym (rw h refl) ∙ e in
        let y : ◌≡◌ {A = ℕ} 0 1 = cc in absurd (omega arith)

-- only a state in its ranges, and a turn that was decided so, moves
moved_only : (fits : Bool) (z : Terms) (top q : ℕ) (l : Lane) (mem : Memory) (t : Option Turn) (u : Turn)
    → verdict_of fits z top q l mem t ≡ Ok u → (fits ≡ true) × (decided z top l t ≡ Ok u)
unfolding verdict_of
moved_only fits z top q l mem t u = by fits (lengths_fit z mem) (ltb q z.p) (idle l.op)
  where
    none : {A : Type 0} (r : Refusal) → Err r ≡ Ok u → A
    none r e = let y : ◌≡◌ {A = ℕ} 0 1 = cc in absurd (omega arith)

    by : (w x y i : Bool)
        → pick (not w) (Err Refusal.OutOfRange) (pick (not x) (Err Refusal.OtherLengths)
        (pick (not y) (Err Refusal.NoSuchProcess) (pick i (Err Refusal.NothingUnderWay) (decided z top l t))))
        ≡ Ok u
        → (w ≡ true) × (decided z top l t ≡ Ok u)
    by false x y i e = none Refusal.OutOfRange e
    by true false y i e = none Refusal.OtherLengths e
    by true true false i e = none Refusal.NoSuchProcess e
    by true true true true e = none Refusal.NothingUnderWay e
    by true true true false e = (refl, e)

-- a step on a lane, whatever its turn: refused, and the state is as it was; or moved within the ranges
pub turned_keeps : (s : State) (q : ℕ) (mem : Memory) (t : Option Turn) → state_fits (step_by s q mem t).stepped.state ≡ state_fits s
turned_keeps s q mem t = by (verdict_of (state_fits s) s.terms s.top q (lane_of s q) mem t) refl
  where
    by : (v : Verdict) → verdict_of (state_fits s) s.terms s.top q (lane_of s q) mem t ≡ v
        → state_fits (outcome_as s q (effect_of (lane_of s q) s.top mem v)).stepped.state ≡ state_fits s
    by (Err r) e = ap state_fits (put_back s q)
    by (Ok u) e =
        let k = moved_only (state_fits s) s.terms s.top q (lane_of s q) mem t u e in
        let h = moves_within s.terms s.top (lane_of s q) t u k.1 in
        let l = advance u.next (lane_after u.change (lane_of s q)) in
        let low = leb (top_after u.change s.top) (pool_words s.terms.p s.terms.m) in
        settled_fits s q l (top_after u.change s.top) k.0 (and_right low (lane_fits s.terms l) h) (and_left low (lane_fits s.terms l) h) ∙ sym k.0

pub step_keeps : (s : State) (q : ℕ) (mem : Memory) → state_fits (step_of s q mem).stepped.state ≡ state_fits s
step_keeps s q mem = turned_keeps s q mem (turn_in s q mem)
