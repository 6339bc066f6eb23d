-- Proof: the test on what a step would change is the test on the whole state after it.
-- Assumes nothing.
use Rattle.std.specs.Prelude.{ℕ, ◌<◌, ◌≡◌, true, ◌&&◌, leb, length}
use Rattle.std.proofs.Common.{sym, ap, ◌∙◌, get_or-set_same, le-leb}
use Rattle.numbers.specs.Numbers.{pool_words}
use Rattle.logic.specs.Truth.{and_left, and_right, both_ways}
use Rattle.lanes.specs.declared.Lane.{Lane}
use Rattle.lanes.specs.declared.State.{State}
use Rattle.lanes.specs.Ranges.{rest, lane_of, lane_fits, state_fits}
use Rattle.lanes.specs.Laws.{sized, sizes_of, lane_of_lem}
use Rattle.acts.specs.Calls.{settled}
use Rattle.acts.specs.Settled.{settled_fits}
use Rattle.claims.specs.Claims.{NewNumbers}

module _ (s : State) (q : ℕ) (fine : state_fits s ≡ true) (low : q < s.terms.p) (here : q < length s.lanes) (l : Lane) (t : ℕ) where
  abbrev s' : State
  s' = settled s q l t

  lane_new : lane_of s' q ≡ l
  lane_new = get_or-set_same s.lanes q l rest here

  to : (leb t (pool_words s.terms.p s.terms.m) && lane_fits s.terms l) ≡ true → state_fits s' ≡ true
  to h =
      settled_fits s q l t fine
      (and_right (leb t (pool_words s.terms.p s.terms.m)) (lane_fits s.terms l) h)
      (and_left (leb t (pool_words s.terms.p s.terms.m)) (lane_fits s.terms l) h)

  fro : state_fits s' ≡ true → (leb t (pool_words s.terms.p s.terms.m) && lane_fits s.terms l) ≡ true
  fro h =
      rw (le-leb t (pool_words s.terms.p s.terms.m) (sized s.terms t (sizes_of s' h)).top_high)
      (sym (ap (lane_fits s.terms) lane_new) ∙ lane_of_lem s' h q low)

  whole : (leb t (pool_words s.terms.p s.terms.m) && lane_fits s.terms l) ≡ state_fits s'
  whole = both_ways _ _ to fro

pub new_numbers : NewNumbers
new_numbers s q change next fine low here = whole s q fine low here _ _
