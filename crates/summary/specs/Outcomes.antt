-- The proofs of the claims.
-- Assumes nothing.
use Rattle.std.specs.Prelude.{ℕ, ◌*◌, ◌≡◌, refl, Bool, ◌&&◌, List, [], ◌∷◌, Option, None, Some}
use Rattle.std.proofs.Common.{ap, ◌∙◌}
use Rattle.numbers.specs.Cells.{cell_at}
use Rattle.numbers.specs.declared.Cell.{Cell}
use Rattle.numbers.specs.declared.Terms.{Terms}
use Rattle.logic.specs.Below.{below}
use Rattle.logic.specs.Determined.{by_equation}
use Rattle.logic.specs.Pick.{pick}
use Rattle.lanes.specs.declared.Check.{Check}
use Rattle.lanes.specs.declared.Op.{Op}
use Rattle.lanes.specs.declared.Lane.{Lane}
use Rattle.lanes.specs.declared.State.{State}
use Rattle.lanes.specs.Ranges.{lane_of, check_fits, rest_fits, lane_fits, sizes_fit}
use Rattle.steps.specs.declared.Found.{Found}
use Rattle.steps.specs.Memory.{Memory}
use Rattle.quiet.specs.declared.Scan.TheVariants as Scan
use Rattle.quiet.specs.Quiet.{at_rest, scan_of, onward, looked_at, reading_as}
use Rattle.summary.specs.Summary.{outside, four_from, quarters, any_outside, counted, written_among, summary_of}
use Rattle.summary.specs.Claims.{OneSummary, filled_by, WithoutFilling}

pub one_summary : OneSummary
one_summary s h mem = by_equation (summary_of s h mem)

-- ---- another filling rule

-- the ranges look at p and m alone
module _ (z : Terms) (first step : ℕ) where
  abbrev filled : Terms
  filled = record { p = z.p; m = z.m; first = first; step = step }

  same_check : (c : Check) → check_fits filled c ≡ check_fits z c
  same_check Check.Link = refl
  same_check (Check.Marks link) = refl
  same_check (Check.Directory link) = refl
  same_check (Check.Mark start link) = refl

  same_rest : (o : Op) → rest_fits filled o ≡ rest_fits z o
  same_rest Op.Idle = refl
  same_rest (Op.Read i c) = same_check c
  same_rest (Op.Reading i) = refl
  same_rest (Op.Asked i c) = same_check c
  same_rest (Op.Store i v) = refl
  same_rest (Op.Write i c) = same_check c
  same_rest (Op.Marking i k) = refl

  same_lane : (l : Lane) → lane_fits filled l ≡ lane_fits z l
  same_lane l = rw (same_rest l.op)

module _ (s : State) (first step : ℕ) (mem : Memory) where
  abbrev other : State
  other = filled_by first step s

  same_scan : scan_of other ≡ scan_of s
  same_scan =
      ap (λ (f : ℕ → Bool). pick (sizes_fit s.terms s.top && below s.terms.p f) (pick (at_rest s) Scan.AtRest Scan.AtWork) Scan.Unfit)
      (λ k q. same_lane s.terms first step (lane_of s q) k)

  abbrev on : State → Cell → Option Found → Option Found
  on t i f = onward t i mem.links mem.directory mem.pool f

  same_on : (i : Cell) (f : Option Found) → on other i f ≡ on s i f
  same_on i None = refl
  same_on i (Some (Found.On Check.Link)) = refl
  same_on i (Some (Found.On (Check.Marks link))) = refl
  same_on i (Some (Found.On (Check.Directory link))) = refl
  same_on i (Some (Found.On (Check.Mark start link))) = refl
  same_on i (Some (Found.NotWritten link)) = refl
  same_on i (Some Found.Written) = refl

  same_next : (i : Cell) (f g : Option Found) → f ≡ g → on other i f ≡ on s i g
  same_next i f g e = ap (on other i) e ∙ same_on i g

  same_look : (i : Cell) → looked_at other i mem.links mem.directory mem.pool ≡ looked_at s i mem.links mem.directory mem.pool
  unfolding looked_at
  same_look i = same_next i _ _ (same_next i _ _ (same_next i _ _ (same_on i (Some (Found.On Check.Link)))))

  same_outside : (i : Cell) (f : Option Found) → outside (reading_as other i mem.readings f) ≡ outside (reading_as s i mem.readings f)
  same_outside i None = refl
  same_outside i (Some (Found.On c)) = refl
  same_outside i (Some (Found.NotWritten link)) = refl
  same_outside i (Some Found.Written) = refl

  same_counted : (i : Cell) (f : Option Found) (vs : List ℕ) → counted (reading_as other i mem.readings f) vs ≡ counted (reading_as s i mem.readings f) vs
  same_counted i None vs = refl
  same_counted i (Some (Found.On c)) vs = refl
  same_counted i (Some (Found.NotWritten link)) vs = refl
  same_counted i (Some Found.Written) vs = refl

  abbrev found : Cell → Option Found
  found i = looked_at s i mem.links mem.directory mem.pool

  any_same : (is : List ℕ) → any_outside (quarters other mem is) ≡ any_outside (quarters s mem is)
  any_same [] = refl
  any_same (i ∷ is) = rw (same_look (cell_at s.terms i), same_outside (cell_at s.terms i) (found (cell_at s.terms i)), any_same is)

  written_same : (is : List ℕ) → written_among (quarters other mem is) ≡ written_among (quarters s mem is)
  written_same [] = refl
  written_same (i ∷ is) =
      rw (same_look (cell_at s.terms i), written_same is)
      (same_counted (cell_at s.terms i) (found (cell_at s.terms i)) (written_among (quarters s mem is)))

pub without_filling : WithoutFilling
unfolding summary_of
without_filling s first step h mem =
    rw (same_scan s first step mem, any_same s first step mem (four_from (4 * h)), written_same s first step mem (four_from (4 * h)))
