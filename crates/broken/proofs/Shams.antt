-- Each sham breaks the clause that document 01 names for it, and none of them is what is demanded.
-- Assumes nothing.
use Rattle.std.specs.Prelude.{ℕ, ◌<◌, ◌≡◌, refl, List, [], ◌∷◌, get_or, Ok, Err}
use Rattle.std.proofs.Common.{ap, subst, arith}
use Rattle.std.proofs.Math.Decide.{ℕ_discrete}
use Rattle.numbers.specs.Numbers.{fill_of, log_in, log2, segment_of, offset_of, size_of}
use Rattle.logic.specs.Below.{below}
use Rattle.acts.specs.Calls.{opening_of, begun_of, verdict_of, begin_of}
use Rattle.theory.specs.Interface.{upd}
use Rattle.demands.specs.Types.{Refusal, Terms, State, Memory, Ask}
use Rattle.demands.specs.Kinds.{writing}
use Rattle.acts.specs.Worlds.{Machine, Started, Result, grid, Call, Accepted, opened_world}
use Rattle.demands.specs.Book.{run, start}
use Rattle.demands.specs.Demand1.{refused, begins, Demand1}
use Rattle.demands.specs.Demand2.{ByTheList, OneOrder}
use Rattle.demands.specs.Demand3.{Counted}
use Rattle.demands.specs.Demanded.{Meets, Demanded}
use Rattle.broken.specs.Histories.{recount, history, quiet, run_book, no_one_order}
use Rattle.broken.specs.Lost.{cell, lent, opened, stray}
use Rattle.broken.specs.Shams.{one, after, refuser, fixed, written_then_read, idler, four_steps}
use Rattle.broken.specs.Shams.{hasty_one, inventor, begun_read, twice, once_written, closed_one, No}

pub refuser_breaks_the_table : Demand1 writing refuser → ⊥
unfolding below opening_of
refuser_breaks_the_table D =
    let k : refused Refusal.OutOfRange ≡ begins = D.begin_table_lem (opened 1 1 (stray ∷ [])).state 0 (Ask.Read (cell 0)) in
    let y : ◌≡◌ {A = ℕ} 0 1 = cc in omega arith

pub fixed_breaks_the_order : OneOrder (fill_of 7 0) (after fixed written_then_read).book → ⊥
unfolding recount history quiet upd ℕ_discrete below opening_of begun_of verdict_of log_in log2 segment_of offset_of size_of
fixed_breaks_the_order O =
    no_one_order (fill_of 7 0) 0 7 (history fixed (opened 1 1 (stray ∷ [])) written_then_read) refl refl
    (subst (OneOrder (fill_of 7 0)) (run_book fixed (start (opened 1 1 (stray ∷ []))) written_then_read) O)

pub idler_breaks_the_count : Counted idler (after idler four_steps) → ⊥
unfolding run upd ℕ_discrete below opening_of begun_of verdict_of log_in log2 segment_of offset_of size_of
idler_breaks_the_count C = let h : 5 < 5 = C 0 in omega arith

-- after its first step the link is swapped
pub hasty_breaks_the_list : ByTheList writing hasty_one → ⊥
unfolding below opening_of begun_of verdict_of log_in log2 segment_of offset_of size_of
hasty_breaks_the_list L =
    let s = (begin_of (opened 1 1 (stray ∷ [])).state 0 (Ask.Write (cell 0) 9)).state in
    let mem = (opened 1 1 (stray ∷ [])).memory in
    let k : 0 ≡ stray = ap (λ (o : Result State). get_or o.memory.links 0 0) (L.steps s 0 mem) in omega arith

pub inventor_breaks_the_count : Counted inventor (after inventor begun_read) → ⊥
unfolding run upd ℕ_discrete below opening_of begun_of verdict_of log_in log2 segment_of offset_of size_of
inventor_breaks_the_count C = let h : ◌≡◌ {A = ℕ} 2 1 = (C 0).0 in omega arith

pub twice_breaks_the_count : Counted twice (after twice once_written) → ⊥
unfolding run upd ℕ_discrete below opening_of begun_of verdict_of log_in log2 segment_of offset_of size_of
twice_breaks_the_count C = C 0

pub closed_breaks_the_table : Demand1 writing closed_one → ⊥
closed_breaks_the_table D =
    let k : Err Refusal.LentLength ≡ (Ok tt) = D.open_table one (lent 1 1 (stray ∷ [])) in
    let y : ◌≡◌ {A = ℕ} 0 1 = cc in omega arith

-- any of them that opens as the grid does
accepted : (M : Machine State Ask) → M.opens ≡ grid.opens → Accepted M one (lent 1 1 (stray ∷ []))
unfolding opening_of
accepted M same = ap (λ (f : Terms → Memory → Started State). (f one (lent 1 1 (stray ∷ []))).opening) same

abbrev met : {M : Machine State Ask} → M.opens ≡ grid.opens → Demanded M → (calls : List (Call Ask one))
    → Meets writing M one (run writing M (start (opened_world M one (lent 1 1 (stray ∷ [])))) calls)
met {M} same D calls = D.runs one (lent 1 1 (stray ∷ [])) (accepted M same) calls

pub none_is_demanded : No refuser × No fixed × No idler × No hasty_one × No inventor × No closed_one × No twice
none_is_demanded = (
  (λ D. refuser_breaks_the_table D.demand_1),
  (λ D. fixed_breaks_the_order (met refl D written_then_read).one_order),
  (λ D. idler_breaks_the_count (met refl D four_steps).counted),
  (λ D. hasty_breaks_the_list D.by_the_list),
  (λ D. inventor_breaks_the_count (met refl D begun_read).counted),
  (λ D. closed_breaks_the_table D.demand_1),
  (λ D. twice_breaks_the_count (met refl D once_written).counted),
)
