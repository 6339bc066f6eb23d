-- What functions inside the crate and above it lean on; no statement cites it.
-- Assumes nothing.
use Rattle.std.specs.Prelude.{ℕ, ◌<◌, ◌≤◌, ◌≡◌, refl, List, Bool, true, false, Ok, Err, ltb}
use Rattle.std.proofs.Common.{ap}
use Rattle.numbers.specs.Numbers.{most_processes, most_marks, process_of}
use Rattle.numbers.specs.declared.Cell.{Cell}
use Rattle.numbers.specs.declared.Terms.{Terms}
use Rattle.logic.specs.Pick.{pick}
use Rattle.lanes.specs.declared.Check.{Check}
use Rattle.lanes.specs.declared.Op.{Op}
use Rattle.lanes.specs.declared.Lane.{Lane}
use Rattle.lanes.specs.Ranges.{lane_fits, sizes_fit}
use Rattle.steps.specs.Memory.{Memory}
use Rattle.steps.specs.Inner.{handed}
use Rattle.steps.specs.Steps.{check, read_turn, asked_turn, checked_turn, op_turn}
use Rattle.acts.specs.Calls.{Response}

-- A process's lane; 0 where it has none.
abbrev pub lane_at : ℕ → ℕ
lane_at q = pick (ltb q most_processes) q 0

-- Only a refusal changes nothing.
abbrev pub changes : Response → Bool
changes (Ok a) = true
changes (Err r) = false

-- What the judge of a step is to know where the state fits.
pub record Judged (fits : Bool) (z : Terms) (top q : ℕ) (l : Lane) (seen : ℕ) : Type 0 where
  pub sizes : fits ≡ true → sizes_fit z top ≡ true
  pub lane : fits ≡ true → q < z.p → lane_fits z l ≡ true
  pub marks : fits ≡ true → q < z.p → seen ≤ most_marks z.m

-- The process whose marks in force the next step reads, in (b); 0 where it reads none. The code looks them up before the step,
-- and hands them in.
abbrev pub named_in : Check → ℕ
named_in Check.Link = 0
named_in (Check.Marks link) = process_of link
named_in (Check.Directory link) = 0
named_in (Check.Mark start link) = 0

abbrev pub named : Op → ℕ
named Op.Idle = 0
named (Op.Read i c) = named_in c
named (Op.Reading i) = 0
named (Op.Asked i c) = named_in c
named (Op.Store i v) = 0
named (Op.Write i c) = named_in c
named (Op.Marking i k) = 0

-- A step reads no other marks in force: handed in or looked up, the turn is the same.
pub handed_check : (z : Terms) (in_force : ℕ → ℕ) (links directory pool : List ℕ) (i : Cell) (c : Check)
    → check z (handed (in_force (named_in c))) links directory pool i c ≡ check z in_force links directory pool i c
unfolding handed
handed_check z in_force links directory pool i Check.Link = refl
handed_check z in_force links directory pool i (Check.Marks link) = refl
handed_check z in_force links directory pool i (Check.Directory link) = refl
handed_check z in_force links directory pool i (Check.Mark start link) = refl

module _ (z : Terms) (top q : ℕ) (l : Lane) (in_force : ℕ → ℕ) (mem : Memory) where
  pub handed_turn : (o : Op) → op_turn z top q l (handed (in_force (named o))) mem o ≡ op_turn z top q l in_force mem o
  handed_turn Op.Idle = refl
  handed_turn (Op.Read i c) = ap (read_turn z i) (handed_check z in_force mem.links mem.directory mem.pool i c)
  handed_turn (Op.Reading i) = refl
  handed_turn (Op.Asked i c) = ap (asked_turn i) (handed_check z in_force mem.links mem.directory mem.pool i c)
  handed_turn (Op.Store i v) = refl
  handed_turn (Op.Write i c) = ap (checked_turn q l i) (handed_check z in_force mem.links mem.directory mem.pool i c)
  handed_turn (Op.Marking i k) = refl
