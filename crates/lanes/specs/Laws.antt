-- What a state in its ranges says of its numbers: for callers, in place of the definitions' text.
-- Assumes nothing.
use Rattle.std.specs.Prelude.{◌≡◌, Bool, true, false, ◌&&◌, ℕ, ◌<◌, ◌≤◌, leb, eqb}
use Rattle.std.proofs.Common.{arith, leb-true, eqb-true}
use Rattle.logic.specs.Pick.{pick}
use Rattle.logic.specs.Truth.{and_left, and_right}
use Rattle.logic.specs.Below.{below}
use Rattle.logic.specs.BelowLaws.{below_at}
use Rattle.numbers.specs.Numbers.{most_processes, most_cells, most_segments, most_steps, most_marks, pool_words}
use Rattle.numbers.specs.Cells.{processes_fit, cells_fit, cell_fits}
use Rattle.numbers.specs.declared.Terms.{Terms}
use Rattle.lanes.specs.declared.Op.{Op}
use Rattle.lanes.specs.declared.Lane.{Lane}
use Rattle.lanes.specs.declared.State.{State}
use Rattle.lanes.specs.Ranges.{lane_of, idle, cell_in, rest_fits, op_fits, lane_fits, sizes_fit, state_fits}

pub record Sized (z : Terms) (top : ℕ) : Type 0 where
  pub p_low : 1 ≤ z.p
  pub p_high : z.p ≤ most_processes
  pub m_low : 1 ≤ z.m
  pub m_high : z.m ≤ most_cells
  pub top_high : top ≤ pool_words z.p z.m

pub sized : (z : Terms) (top : ℕ) → sizes_fit z top ≡ true → Sized z top
sized z top h =
    let t = leb top (pool_words z.p z.m) in
    let p = and_left (processes_fit z.p) (cells_fit z.m && t) h in
    let a = and_right (processes_fit z.p) (cells_fit z.m && t) h in
    let m = and_left (cells_fit z.m) t a in
    record {
      p_low = leb-true _ _ (and_left (leb 1 z.p) (leb z.p most_processes) p);
      p_high = leb-true _ _ (and_right (leb 1 z.p) (leb z.p most_processes) p);
      m_low = leb-true _ _ (and_left (leb 1 z.m) (leb z.m most_cells) m);
      m_high = leb-true _ _ (and_right (leb 1 z.m) (leb z.m most_cells) m);
      top_high = leb-true _ _ (and_right (cells_fit z.m) t a);
    }

-- Another top in its range leaves the sizes in theirs.
pub other_top : (z : Terms) (top t : ℕ) → sizes_fit z top ≡ true → leb t (pool_words z.p z.m) ≡ true → sizes_fit z t ≡ true
other_top z top t h k =
    let r = cells_fit z.m && leb top (pool_words z.p z.m) in
    let p = and_left (processes_fit z.p) r h in
    let m = and_left (cells_fit z.m) (leb top (pool_words z.p z.m)) (and_right (processes_fit z.p) r h) in
    rw (p, m) k

pub record LaneOk (z : Terms) (l : Lane) : Type 0 where
  pub marks : l.marks ≤ most_marks z.m
  pub drawn : l.drawn ≤ most_segments
  pub op : op_fits z l.steps l.op ≡ true

pub lane_ok : (z : Terms) (l : Lane) → lane_fits z l ≡ true → LaneOk z l
lane_ok z l h =
    let t2 = op_fits z l.steps l.op in
    let t1 = leb l.drawn most_segments && t2 in
    let a = and_right (leb l.marks (most_marks z.m)) t1 h in
    record {
      marks = leb-true _ _ (and_left (leb l.marks (most_marks z.m)) t1 h);
      drawn = leb-true _ _ (and_left (leb l.drawn most_segments) t2 a);
      op = and_right (leb l.drawn most_segments) t2 a;
    }

-- Own steps so far, whether or not an operation is under way.
pub few_steps : (z : Terms) (steps : ℕ) (o : Op) → op_fits z steps o ≡ true → steps ≤ most_steps
few_steps z steps o = by (idle o)
  where
    work : Bool
    work = cell_fits z (cell_in o) && rest_fits z o

    by : (b : Bool) → pick b (eqb steps 0) (leb steps most_steps && work) ≡ true → steps ≤ most_steps
    by true h = let e = eqb-true steps 0 h in omega arith
    by false h = leb-true _ _ (and_left (leb steps most_steps) work h)

pub lane_steps : (z : Terms) (l : Lane) → lane_fits z l ≡ true → l.steps ≤ most_steps
lane_steps z l h = few_steps z l.steps l.op (lane_ok z l h).op

-- An operation under way: its cell is one of the grid's, and so is the rest of what it holds.
module _ (z : Terms) (steps : ℕ) (o : Op) (busy : idle o ≡ false) (h : op_fits z steps o ≡ true) where
  at_work_lem : (leb steps most_steps && (cell_fits z (cell_in o) && rest_fits z o)) ≡ true
  at_work_lem = rw busy at h

  pub cell_fits_lem : cell_fits z (cell_in o) ≡ true
  cell_fits_lem = and_left (cell_fits z (cell_in o)) (rest_fits z o) (and_right (leb steps most_steps) (cell_fits z (cell_in o) && rest_fits z o) at_work_lem)

  pub rest_fits_lem : rest_fits z o ≡ true
  rest_fits_lem = and_right (cell_fits z (cell_in o)) (rest_fits z o) (and_right (leb steps most_steps) (cell_fits z (cell_in o) && rest_fits z o) at_work_lem)

module _ (s : State) (h : state_fits s ≡ true) where
  pub sizes_of : sizes_fit s.terms s.top ≡ true
  sizes_of = and_left (sizes_fit s.terms s.top) (below s.terms.p (λ (q : ℕ). lane_fits s.terms (lane_of s q))) h

  pub lane_of_lem : (q : ℕ) → q < s.terms.p → lane_fits s.terms (lane_of s q) ≡ true
  lane_of_lem q l =
      below_at s.terms.p q (λ (k : ℕ). lane_fits s.terms (lane_of s k)) l
      (and_right (sizes_fit s.terms s.top) (below s.terms.p (λ (k : ℕ). lane_fits s.terms (lane_of s k))) h)
