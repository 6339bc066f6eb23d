-- From the lane that a begin or a step is made on to the state: the lane in use, what a refusal leaves, and the call's outcome.
-- Assumes nothing.
use Rattle.std.specs.Prelude.{Option, Ok, Err}
use mathlib.Core.Path.{◌≡◌, refl, sym, ap, ◌∙◌}
use mathlib.Core.Bool.{Bool, true, false, not}
use mathlib.Core.List.{List}
use Prim.Native.Nat.{ℕ, ◌<◌, ◌≤◌}
use native.Mathlib.Omega.{arith}
use lib.Dec.{ltb}
use lib.ListN.{set}
use lib.Seq.{set-get_or}
use borrow.Author.Tests.{lt-ltb, ltb-true}
use Rattle.numbers.specs.Numbers.{most_processes, most_marks}
use Rattle.numbers.specs.Cells.{cell_fits}
use Rattle.numbers.specs.declared.Cell.{Cell}
use Rattle.numbers.specs.declared.Terms.{Terms}
use Rattle.logic.specs.Pick.{pick}
use Rattle.refusals.specs.declared.Refusal.{Refusal}
use Rattle.steps.specs.declared.Turn.{Turn}
use Rattle.steps.specs.Inner.{handed}
use Rattle.steps.specs.Steps.{turn_of}
use Rattle.lanes.specs.declared.Check.{Check}
use Rattle.lanes.specs.declared.Op.{Op}
use Rattle.lanes.specs.declared.Lane.{Lane}
use Rattle.lanes.specs.declared.State.{State}
use Rattle.lanes.specs.Ranges.{rest, lane_of, marks_of, idle, check_fits, op_fits, state_fits}
use Rattle.lanes.specs.Laws.{sized, lane_ok, rest_fits_lem, sizes_of, lane_of_lem}
use Rattle.steps.specs.Memory.{Memory}
use Rattle.acts.specs.declared.Ask.{Ask}
use Rattle.acts.specs.declared.Answer.TheVariants as Answer
use Rattle.acts.specs.declared.Acted.{Acted}
use Rattle.acts.specs.declared.Stepped.{Stepped}
use Rattle.acts.specs.Calls.{Verdict, Response, lengths_fit, cell_of, op_of, refused_as, with_op, begun_of, begin_of, verdict_of, turn_in, step_by, step_of}
use Rattle.acts.specs.Calls.{Effect, effect, effect_of, act_of, outcome, stepped_as, outcome_as}
use Rattle.acts.specs.Inner.{lane_at, changes, Judged, named_in, named, handed_turn}

-- the process that a lane in its range names is one of the grid's, or 0
named_in_lem : (z : Terms) (c : Check) → 1 ≤ z.p → check_fits z c ≡ true → named_in c < z.p
named_in_lem z Check.Link h e = omega arith
named_in_lem z (Check.Marks w) h e = ltb-true _ _ e
named_in_lem z (Check.Directory w) h e = omega arith
named_in_lem z (Check.Mark start w) h e = omega arith

named_of : (z : Terms) (steps : ℕ) (o : Op) → 1 ≤ z.p → op_fits z steps o ≡ true → named o < z.p
named_of z steps Op.Idle h e = omega arith
named_of z steps (Op.Read i c) h e = named_in_lem z c h (rest_fits_lem z steps (Op.Read i c) refl e)
named_of z steps (Op.Reading i) h e = omega arith
named_of z steps (Op.Asked i c) h e = named_in_lem z c h (rest_fits_lem z steps (Op.Asked i c) refl e)
named_of z steps (Op.Store i v) h e = omega arith
named_of z steps (Op.Write i c) h e = named_in_lem z c h (rest_fits_lem z steps (Op.Write i c) refl e)
named_of z steps (Op.Marking i k) h e = omega arith

-- the lane at k, which is process q's where q is one of the grid's
module _ (s : State) (q k : ℕ) (at : k ≡ lane_at q) (l : Lane) (is : l ≡ lane_of s k) where
  same_lanes : set s.lanes k l ≡ s.lanes
  same_lanes = rw is (set-get_or s.lanes k rest)

  own_lanes : set s.lanes q (lane_of s q) ≡ s.lanes
  own_lanes = set-get_or s.lanes q rest

  module _ (fine : state_fits s ≡ true) (low : q < s.terms.p) where
    lane_q : k ≡ q
    lane_q = let few = (sized s.terms s.top (sizes_of s fine)).p_high in at ∙ simp (lt-ltb q most_processes (omega arith))

    is_q : l ≡ lane_of s q
    is_q = is ∙ ap (lane_of s) lane_q

  abbrev begins : Bool → Lane → Cell → Op → Acted
  begins fits lane i o = begun_of fits s.terms s.top q lane i o

  -- a call on the lane at k comes to the call on process q's lane, where it is the same; else both leave the state
  begun_by : (i : Cell) (o : Op) (x : Bool) → state_fits s ≡ x → (y : Bool) → ltb q s.terms.p ≡ y
      → stepped_as s k (begins (state_fits s) l i o) ≡ stepped_as s q (begins (state_fits s) (lane_of s q) i o)
  unfolding begun_of
  begun_by i o true h true g = let low = ltb-true q s.terms.p g in rw (is_q h low, lane_q h low)
  begun_by i o true h false g = rw (h, g) (rw (same_lanes, own_lanes))
  begun_by i o false h y g = rw h (rw (same_lanes, own_lanes))

  pub begun_is : (fits : Bool) (a : Ask) (i : Cell) (o : Op) (b : Acted) → fits ≡ state_fits s → i ≡ cell_of a → o ≡ op_of a
      → b ≡ begun_of fits s.terms s.top q l i o → stepped_as s k b ≡ begin_of s q a
  begun_is fits a i o b e c d f = rw (f, e, c, d) (begun_by (cell_of a) (op_of a) (state_fits s) refl (ltb q s.terms.p) refl)

  abbrev pub unchanged : Response → Stepped
  unchanged a = record { state = s; answer = a }

  -- a refusal leaves the lane and the top as they were
  refused_is : (b : Acted) (r : Refusal) → b ≡ refused_as l s.top r → unchanged b.answer ≡ stepped_as s k b
  refused_is b r f = rw f (ap (λ (x : List Lane). stepped x) (sym same_lanes))
    where
      stepped : List Lane → Stepped
      stepped x = record { state = record { terms = s.terms; top = s.top; lanes = x }; answer = Err r }

  pub begun_kept : (fits : Bool) (i : Cell) (o : Op) (b : Acted) → b ≡ begun_of fits s.terms s.top q l i o → changes b.answer ≡ false
      → unchanged b.answer ≡ stepped_as s k b
  unfolding begun_of
  begun_kept fits i o b e h = by fits (ltb q s.terms.p) (idle l.op) (cell_fits s.terms i) e
    where
      refuse : Refusal → Acted
      refuse = refused_as l s.top

      begun : Acted
      begun = record { lane = with_op l 0 o; top = s.top; answer = Ok Answer.Begun }

      by : (w x y z : Bool)
          → b ≡ pick (not w) (refuse Refusal.OutOfRange) (pick (not x) (refuse Refusal.NoSuchProcess)
          (pick (not y) (refuse Refusal.UnderWay) (pick (not z) (refuse Refusal.NoSuchCell) begun)))
          → unchanged b.answer ≡ stepped_as s k b
      by false x y z f = refused_is b Refusal.OutOfRange f
      by true false y z f = refused_is b Refusal.NoSuchProcess f
      by true true false z f = refused_is b Refusal.UnderWay f
      by true true true false f = refused_is b Refusal.NoSuchCell f
      by true true true true f = let g : true ≡ false = sym (ap (λ (x : Acted). changes x.answer) f) ∙ h in cc

  -- a step on the lane at k, whose turn is that of process q's lane where it is the same
  module _ (mem : Memory) (t u : Option Turn) (same : state_fits s ≡ true → q < s.terms.p → t ≡ u) where
    acts_by : (x : Bool) → state_fits s ≡ x → (y : Bool) → ltb q s.terms.p ≡ y → (z : Bool) → lengths_fit s.terms mem ≡ z
        → outcome_as s k (act_of (state_fits s) s.terms s.top q l mem t) ≡ step_by s q mem u
    unfolding verdict_of
    acts_by true h true g z i = let low = ltb-true q s.terms.p g in rw (same h low, is_q h low, lane_q h low)
    acts_by true h false g true i = rw (h, i, g) (rw (same_lanes, own_lanes))
    acts_by true h false g false i = rw (h, i) (rw (same_lanes, own_lanes))
    acts_by false h y g z i = rw h (rw (same_lanes, own_lanes))

    pub acted_is : (fits : Bool) (mem' : Memory) (b : Acted) → fits ≡ state_fits s
        → effect b mem' ≡ act_of fits s.terms s.top q l mem t → outcome (stepped_as s k b) mem' ≡ step_by s q mem u
    acted_is fits mem' b e f =
        ap (outcome_as s k) f
        ∙ rw e (acts_by (state_fits s) refl (ltb q s.terms.p) refl (lengths_fit s.terms mem) refl)

  pub moved_kept : (v : Verdict) (mem mem' : Memory) (b : Acted) → effect b mem' ≡ effect_of l s.top mem v → changes b.answer ≡ false
      → unchanged b.answer ≡ stepped_as s k b
  moved_kept (Err r) mem mem' b e h = refused_is b r (ap (λ (x : Effect). x.acted) e)
  moved_kept (Ok t) mem mem' b e h =
      let g : true ≡ false = sym (ap (λ (x : Effect). changes x.acted.answer) e) ∙ h in
      cc

  -- the marks in force that the step reads, looked up before it
  module _ (j : ℕ) (other : Lane) (from : j ≡ lane_at (named l.op)) (sees : other ≡ lane_of s j) where
    module _ (h : state_fits s ≡ true) (low : q < s.terms.p) where
      small : named (lane_of s q).op < s.terms.p
      small =
          named_of s.terms (lane_of s q).steps (lane_of s q).op (sized s.terms s.top (sizes_of s h)).p_low
          (lane_ok s.terms (lane_of s q) (lane_of_lem s h q low)).op

      seen_is : other.marks ≡ marks_of s (named (lane_of s q).op)
      seen_is =
          let few = (sized s.terms s.top (sizes_of s h)).p_high in
          let here : named l.op ≡ named (lane_of s q).op = ap (λ (x : Lane). named x.op) (is_q h low) in
          let at' : j ≡ named (lane_of s q).op =
          from ∙ ap lane_at here ∙ simp (lt-ltb (named (lane_of s q).op) most_processes (omega (arith, small))) in
          ap (λ (x : Lane). x.marks) (sees ∙ ap (lane_of s) at')

      few_marks : other.marks ≤ most_marks s.terms.m
      few_marks = rw seen_is (lane_ok s.terms (lane_of s (named (lane_of s q).op)) (lane_of_lem s h (named (lane_of s q).op) small)).marks

      handed_is : (mem : Memory) → turn_of s.terms s.top q l (handed other.marks) mem ≡ turn_in s q mem
      handed_is mem = rw (is_q h low, seen_is) (handed_turn s.terms s.top q (lane_of s q) (marks_of s) mem (lane_of s q).op)

    pub judged_at : (fits : Bool) → fits ≡ state_fits s → Judged fits s.terms s.top q l other.marks
    judged_at fits e = record {
      sizes = λ h. sizes_of s (sym e ∙ h);
      lane = λ h low. let fine : state_fits s ≡ true = sym e ∙ h in rw (is_q fine low) (lane_of_lem s fine q low);
      marks = λ h low. few_marks (sym e ∙ h) low;
    }

    pub step_is : (fits : Bool) (mem mem' : Memory) (b : Acted) → fits ≡ state_fits s
        → effect b mem' ≡ act_of fits s.terms s.top q l mem (turn_of s.terms s.top q l (handed other.marks) mem)
        → outcome (stepped_as s k b) mem' ≡ step_of s q mem
    step_is fits mem mem' b e f =
        acted_is mem (turn_of s.terms s.top q l (handed other.marks) mem) (turn_in s q mem) (λ h low. handed_is h low mem) fits mem' b e f

    pub step_kept : (fits : Bool) (mem mem' : Memory) (b : Acted) → fits ≡ state_fits s
        → effect b mem' ≡ act_of fits s.terms s.top q l mem (turn_of s.terms s.top q l (handed other.marks) mem)
        → changes b.answer ≡ false → outcome (unchanged b.answer) mem' ≡ step_of s q mem
    step_kept fits mem mem' b e f h =
        ap (λ (x : Stepped). outcome x mem')
        (moved_kept (verdict_of fits s.terms s.top q l mem (turn_of s.terms s.top q l (handed other.marks) mem)) mem mem' b f h)
        ∙ step_is fits mem mem' b e f
