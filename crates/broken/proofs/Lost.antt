-- Readings lost: none of these histories has a one order.
-- Assumes nothing.
use Rattle.std.specs.Prelude.{refl}
use Rattle.std.proofs.Math.Decide.{ℕ_discrete}
use Rattle.numbers.specs.Numbers.{fill_of, log_in, log2, segment_of, offset_of, size_of}
use Rattle.logic.specs.Below.{below}
use Rattle.acts.specs.Calls.{opening_of, begun_of, verdict_of}
use Rattle.theory.specs.Interface.{upd}
use Rattle.demands.specs.Book.{blank}
use Rattle.demands.specs.Demand2.{OneOrder}
use Rattle.broken.specs.Histories.{recount, history, quiet, no_one_order}
use Rattle.broken.specs.Lost.{incident, zero_load, question, remark_1, race, two}

pub incident_lost : OneOrder (fill_of 7 0) (recount blank incident) → ⊥
unfolding recount quiet upd ℕ_discrete
incident_lost = no_one_order (fill_of 7 0) 0 7 incident refl refl

pub zero_load_lost : OneOrder (fill_of 0 0) (recount blank zero_load) → ⊥
unfolding recount quiet upd ℕ_discrete
zero_load_lost = no_one_order (fill_of 0 0) 0 5 zero_load refl refl

pub question_lost : OneOrder (fill_of 7 0) (recount blank question) → ⊥
unfolding recount quiet upd ℕ_discrete
question_lost = no_one_order (fill_of 7 0) 0 7 question refl refl

pub remark_1_lost : OneOrder (fill_of 7 0) (recount blank remark_1) → ⊥
unfolding recount history quiet upd ℕ_discrete below opening_of begun_of verdict_of log_in log2 segment_of offset_of size_of
remark_1_lost = no_one_order (fill_of 7 0) 0 7 remark_1 refl refl

pub race_lost : OneOrder (fill_of 7 0) (recount blank race) → ⊥
unfolding recount history quiet upd ℕ_discrete below opening_of begun_of verdict_of log_in log2 segment_of offset_of size_of
race_lost = no_one_order (fill_of 7 0) 0 7 race refl refl

pub two_lost : OneOrder (fill_of 7 0) (recount blank two) → ⊥
unfolding recount history quiet upd ℕ_discrete below opening_of begun_of verdict_of log_in log2 segment_of offset_of size_of
two_lost = no_one_order (fill_of 7 0) 0 7 two refl refl
