-- A state looked at lane by lane: what the first lanes have shown so far, and all in use at the end.
-- Assumes nothing.
use Rattle.std.specs.Prelude.{◌≡◌, refl, Bool, true, false, ◌&&◌, ℕ, zero, suc, ◌+◌, ◌≤◌, length, take}
use Rattle.std.specs.List.{list_all}
use Rattle.std.proofs.Common.{sym, ap, ◌∙◌, add-one, arith}
use Rattle.std.proofs.Math.Bool.{and-true, and_assoc}
use Rattle.std.proofs.lemmas.List.Folds.{list_all_more}
use Rattle.numbers.specs.Numbers.{most_processes}
use Rattle.logic.specs.Below.{below}
use Rattle.logic.specs.BelowLaws.{below_more}
use Rattle.lanes.specs.declared.State.{State}
use Rattle.lanes.specs.Ranges.{rest, lane_of, lane_fits, sizes_fit, state_fits}
use Rattle.lanes.specs.Laws.{sized}

-- the sizes, and the lanes below i
abbrev pub Passed : State → ℕ → Bool → Type 0
Passed s i fits = fits ≡ (sizes_fit s.terms s.top && below i (λ (q : ℕ). lane_fits s.terms (lane_of s q)))

pub passed_none : (s : State) (fits : Bool) → fits ≡ sizes_fit s.terms s.top → Passed s 0 fits
unfolding below
passed_none s fits e = e ∙ sym (and-true (sizes_fit s.terms s.top))

pub passed_more : (s : State) (i : ℕ) (fits b c : Bool) → Passed s i fits → b ≡ lane_fits s.terms (lane_of s i) → c ≡ (fits && b)
    → Passed s (i + 1) c
passed_more s i fits b c h e f =
    f ∙ rw (h, e)
    (and_assoc (sizes_fit s.terms s.top) (below i (λ (q : ℕ). lane_fits s.terms (lane_of s q))) (lane_fits s.terms (lane_of s i))
    ∙ ap (λ (x : Bool). sizes_fit s.terms s.top && x) (below_more i (λ (q : ℕ). lane_fits s.terms (lane_of s q))))

pub few_lanes : (s : State) (b : Bool) → b ≡ sizes_fit s.terms s.top → b ≡ true → s.terms.p ≤ most_processes
few_lanes s b e h = (sized s.terms s.top (sym e ∙ h)).p_high

-- past the last lane in use, the state has been looked at
pub passed_all : (s : State) (b : Bool) (i : ℕ) (fits : Bool) → b ≡ sizes_fit s.terms s.top → (b ≡ true → i ≡ s.terms.p) → Passed s i fits
    → fits ≡ state_fits s
passed_all s true i fits e f h =
    h ∙ ap (λ (x : ℕ). sizes_fit s.terms s.top && below x (λ (q : ℕ). lane_fits s.terms (lane_of s q))) (f refl)
passed_all s false i fits e f h = h ∙ rw (← e) refl

-- the first i lanes, looked at as a list
pub passed_first : (s : State) (i : ℕ) → i ≤ length s.lanes
    → Passed s i (sizes_fit s.terms s.top && list_all (lane_fits s.terms) (take i s.lanes))
passed_first s zero h = passed_none s _ (and-true (sizes_fit s.terms s.top))
passed_first s (suc i) h =
    rw (← add-one i)
    (passed_more s i _ (lane_fits s.terms (lane_of s i)) _ (passed_first s i (omega arith)) refl
    (rw (list_all_more (lane_fits s.terms) s.lanes i rest (omega arith))
    (sym (and_assoc (sizes_fit s.terms s.top) (list_all (lane_fits s.terms) (take i s.lanes)) (lane_fits s.terms (lane_of s i))))))

pub passed_list : (s : State) (b fits : Bool) → b ≡ sizes_fit s.terms s.top → b ≡ true → s.terms.p ≤ length s.lanes
    → fits ≡ list_all (lane_fits s.terms) (take s.terms.p s.lanes) → fits ≡ state_fits s
passed_list s b fits e h l f =
    let t : sizes_fit s.terms s.top ≡ true = sym e ∙ h in
    let first = passed_first s s.terms.p l in
    passed_all s b s.terms.p fits e (λ _. refl) (f ∙ (rw t at first) ∙ rw t refl)
