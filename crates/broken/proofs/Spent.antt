-- Two more of document 01's mistakes: one spends more words than demand 3 allows, the other leaves the step list.
-- Assumes nothing.
use Rattle.std.specs.Prelude.{ℕ, ◌≤◌, ◌≡◌, false, [], ◌∷◌, Ok, Err}
use Rattle.std.proofs.Common.{ap, arith}
use Rattle.std.proofs.Math.Decide.{ℕ_discrete}
use Rattle.numbers.specs.Numbers.{log_in, log2, segment_of, offset_of, size_of}
use Rattle.logic.specs.Below.{below}
use Rattle.acts.specs.Calls.{opening_of, begun_of, verdict_of, begin_of}
use Rattle.acts.specs.Worlds.{Result}
use Rattle.theory.specs.Interface.{upd, sum}
use Rattle.demands.specs.Types.{Refusal, State, Ask, Answer}
use Rattle.demands.specs.Kinds.{writing}
use Rattle.demands.specs.Book.{run}
use Rattle.demands.specs.Demand2.{ByTheList}
use Rattle.demands.specs.Demand3.{PoolSpent}
use Rattle.broken.specs.Mistakes.{unchecked}
use Rattle.broken.specs.Lost.{cell, terms, opened, stray}
use Rattle.broken.specs.Spent.{four}

-- 22 words for four cells and two loaders, where 20 are allowed: process 0 has drawn its first segment four times.
pub drawing_again_spends : PoolSpent (terms 2 5) four.world.state four.book → ⊥
unfolding run upd sum ℕ_discrete below opening_of begun_of verdict_of log_in log2 segment_of offset_of size_of
drawing_again_spends h = let k : 22 ≤ 20 = h in omega arith

-- A link that names no process of the grid: the list answers at (a) that the cell is not written; this machine goes on to a process
-- that is not there, and is refused with 9.
pub unchecked_leaves_the_list : ByTheList writing unchecked → ⊥
unfolding below opening_of begun_of verdict_of log_in log2 segment_of offset_of size_of
unchecked_leaves_the_list L =
    let s = (begin_of (opened 1 1 (stray ∷ [])).state 0 (Ask.Read (cell 0))).state in
    let k : Err Refusal.OutOfRange ≡ (Ok (Answer.Read 7 false 1)) =
    ap (λ (o : Result State). o.answer) (L.steps s 0 (opened 1 1 (stray ∷ [])).memory) in
    let y : ◌≡◌ {A = ℕ} 0 1 = cc in omega arith
