-- Where the check of a cell ends, by what its link, the marks in force and the mark say.
-- Assumes nothing.
use Rattle.std.specs.Prelude.{ℕ, zero, suc, ◌+◌, ◌≤◌, ◌<◌, ◌≡◌, Bool, true, false, List, eqb, ltb, length, get_or, Option, None, Some}
use Rattle.std.proofs.Common.{subst}
use native.Mathlib.Omega.{arith}
use borrow.Author.Tests.{lt-ltb, le-ltb}
use Rattle.numbers.specs.Numbers.{most_processes, offset_of, process_of, place_of}
use Rattle.numbers.specs.Cells.{mark_of, index_of}
use Rattle.numbers.specs.declared.Cell.{Cell}
use Rattle.logic.specs.Pick.{pick}
use Rattle.lanes.specs.declared.Check.{Check}
use Rattle.lanes.specs.declared.State.{State}
use Rattle.lanes.specs.Ranges.{marks_of}
use Rattle.steps.specs.declared.Found.{Found}
use Rattle.steps.specs.Steps.{start_of, pool_word, check_mark}
use Rattle.quiet.specs.Quiet.{marks_at, onward, looked_at}

module _ (s : State) (i : Cell) (links directory pool : List ℕ) where
  abbrev link : ℕ
  link = get_or links (index_of s.terms i) 0

  -- (a) names no process: not written
  pub no_process : s.terms.p ≤ process_of link → looked_at s i links directory pool ≡ Some (Found.NotWritten link)
  unfolding looked_at
  no_process h = rw (le-ltb (process_of link) s.terms.p h)

  module _ (named : process_of link < s.terms.p) (few : s.terms.p ≤ most_processes) where
    has_lane : process_of link < most_processes
    has_lane = omega arith

    -- (b) the place is not in force: not written
    pub not_in_force : marks_of s (process_of link) ≤ place_of link → looked_at s i links directory pool ≡ Some (Found.NotWritten link)
    unfolding looked_at
    not_in_force h =
        rw (lt-ltb (process_of link) s.terms.p named, lt-ltb (process_of link) most_processes has_lane, le-ltb (place_of link) (marks_of s (process_of link)) h)

    -- (c) and (d): the mark decides
    pub by_mark : (mark : ℕ) → place_of link < marks_of s (process_of link)
        → start_of directory (process_of link) (place_of link) + offset_of (place_of link) < length pool
        → get_or pool (start_of directory (process_of link) (place_of link) + offset_of (place_of link)) 0 ≡ mark
        → looked_at s i links directory pool ≡ Some (pick (eqb mark (mark_of i)) Found.Written (Found.NotWritten link))
    unfolding looked_at
    by_mark mark h inside e =
        rw (
          lt-ltb (process_of link) s.terms.p named,
          lt-ltb (process_of link) most_processes has_lane,
          lt-ltb (place_of link) (marks_of s (process_of link)) h,
          lt-ltb (start_of directory (process_of link) (place_of link) + offset_of (place_of link)) (length pool) inside,
          e,
        )

-- ---- no check is still on after four steps

abbrev rank : Check → ℕ
rank Check.Link = 0
rank (Check.Marks link) = 1
rank (Check.Directory link) = 2
rank (Check.Mark start link) = 3

-- a check that is still on has come that far
abbrev Far : ℕ → Option Found → Type 0
Far n None = Unit {0}
Far n (Some (Found.On c)) = n ≤ rank c
Far n (Some (Found.NotWritten link)) = Unit {0}
Far n (Some Found.Written) = Unit {0}

far_pick : (n : ℕ) (b : Bool) (f g : Found) → Far n (Some f) → Far n (Some g) → Far n (Some (pick b f g))
far_pick n true f g x y = x
far_pick n false f g x y = y

far_mark : (n own link : ℕ) (g : Option ℕ) → Far n (check_mark own link g)
far_mark n own link None = tt
far_mark n own link (Some mark) = far_pick n (eqb mark own) Found.Written (Found.NotWritten link) tt tt

module _ (s : State) (i : Cell) (links directory pool : List ℕ) where
  farther : (n : ℕ) (f : Option Found) → Far n f → Far (suc n) (onward s i links directory pool f)
  farther n None h = tt
  farther n (Some (Found.On Check.Link)) h =
      let w = get_or links (index_of s.terms i) 0 in
      far_pick (suc n) (ltb (process_of w) s.terms.p) (Found.On (Check.Marks w)) (Found.NotWritten w) (omega arith) tt
  farther n (Some (Found.On (Check.Marks link))) h =
      far_pick (suc n) (ltb (place_of link) (marks_at s (process_of link))) (Found.On (Check.Directory link)) (Found.NotWritten link) (omega arith) tt
  farther n (Some (Found.On (Check.Directory link))) h = omega arith
  farther n (Some (Found.On (Check.Mark start link))) h = far_mark (suc n) (mark_of i) link (pool_word pool start (place_of link))
  farther n (Some (Found.NotWritten link)) h = tt
  farther n (Some Found.Written) h = tt

  -- the check after n steps
  abbrev next : ℕ → Option Found
  next zero = Some (Found.On Check.Link)
  next (suc n) = onward s i links directory pool (next n)

  pub ended : (c : Check) → looked_at s i links directory pool ≡ Some (Found.On c) → ⊥
  unfolding looked_at
  ended c e = by c (subst (Far 4) e (farther 3 (next 3) (farther 2 (next 2) (farther 1 (next 1) (farther 0 (next 0) (omega arith))))))
    where
      by : (c : Check) → 4 ≤ rank c → ⊥
      by Check.Link h = omega arith
      by (Check.Marks link) h = omega arith
      by (Check.Directory link) h = omega arith
      by (Check.Mark start link) h = omega arith
