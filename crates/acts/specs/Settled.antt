-- A state with another lane and another top: for callers, what it keeps.
-- Assumes nothing.
use Rattle.std.specs.Prelude.{ℕ, ◌<◌, ◌≡◌, refl, Bool, true, false, List, leb, ltb, length, get_or, set}
use Rattle.std.proofs.Common.{ap, ◌∙◌, get_or-set_same, get_or-set_other, ltb-true, ltb-false}
use Rattle.std.proofs.Math.Decide.{ℕ_discrete}
use Rattle.std.proofs.Math.Seq.{set_out}
use Rattle.std.proofs.lemmas.List.{set-get_or}
use Rattle.numbers.specs.Numbers.{pool_words}
use Rattle.logic.specs.Below.{below}
use Rattle.logic.specs.BelowLaws.{below_all}
use Rattle.lanes.specs.declared.Lane.{Lane}
use Rattle.lanes.specs.declared.State.{State}
use Rattle.lanes.specs.Ranges.{rest, lane_of, lane_fits, sizes_fit, state_fits}
use Rattle.lanes.specs.Laws.{other_top, sizes_of, lane_of_lem}
use Rattle.acts.specs.Calls.{settled}

-- a lane put back where it was
pub put_back : (s : State) (q : ℕ) → settled s q (lane_of s q) s.top ≡ s
put_back s q = ap (λ (l : List Lane). record { terms = s.terms; top = s.top; lanes = l }) (set-get_or s.lanes q rest)

-- a new lane and a new top within their ranges keep the state in its own
pub settled_fits : (s : State) (q : ℕ) (l : Lane) (t : ℕ) → state_fits s ≡ true → lane_fits s.terms l ≡ true
    → leb t (pool_words s.terms.p s.terms.m) ≡ true
    → state_fits (settled s q l t) ≡ true
settled_fits s q l t fine here top_low = rw (sizes, lanes)
  where
    sizes : sizes_fit s.terms t ≡ true
    sizes = other_top s.terms s.top t (sizes_of s fine) top_low

    own : q < s.terms.p → (b : Bool) → ltb q (length s.lanes) ≡ b → lane_fits s.terms (get_or (set s.lanes q l) q rest) ≡ true
    own k true h = ap (lane_fits s.terms) (get_or-set_same s.lanes q l rest (ltb-true _ _ h)) ∙ here
    own k false h = ap (λ (x : List Lane). lane_fits s.terms (get_or x q rest)) (set_out s.lanes q l (ltb-false _ _ h)) ∙ lane_of_lem s fine q k

    at : (r : ℕ) → r < s.terms.p → Dec (r ≡ q) → lane_fits s.terms (lane_of (settled s q l t) r) ≡ true
    at r k (yes e) = rw e (own (rw (← e) k) (ltb q (length s.lanes)) refl)
    at r k (no e) = ap (lane_fits s.terms) (get_or-set_other s.lanes q r l rest e) ∙ lane_of_lem s fine r k

    lanes : below s.terms.p (λ (r : ℕ). lane_fits s.terms (lane_of (settled s q l t) r)) ≡ true
    lanes = below_all s.terms.p (λ (r : ℕ). lane_fits s.terms (lane_of (settled s q l t) r)) (λ r k. at r k (ℕ_discrete r q))
