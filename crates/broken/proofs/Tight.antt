-- The steps of demand 3 are reached, and of the pool neither 3 words for a cell nor 1 for a loader would do. Closed runs of the
-- grid, by computation.
-- Assumes nothing.
use Rattle.std.specs.Prelude.{◌≡◌, refl, true, [], ◌∷◌, Ok}
use Rattle.std.proofs.Math.Decide.{ℕ_discrete}
use Rattle.numbers.specs.Numbers.{log_in, log2, segment_of, offset_of, size_of}
use Rattle.logic.specs.Below.{below}
use Rattle.acts.specs.Calls.{opening_of, begun_of, verdict_of}
use Rattle.theory.specs.Interface.{upd, sum, read, asked, write}
use Rattle.demands.specs.Types.{Answer}
use Rattle.demands.specs.Book.{run}
use Rattle.demands.specs.Demand3.{most_steps, pool_bound}
use Rattle.broken.specs.Lost.{terms}
use Rattle.broken.specs.Tight.{after, answered, reading, asking, losing, full, crowd}

pub a_read_takes_five : answered (after 1 1 (0 ∷ []) reading) 0 ≡ Ok (Answer.Read 9 true (most_steps read))
unfolding run upd ℕ_discrete below opening_of begun_of verdict_of log_in log2 segment_of offset_of size_of
a_read_takes_five = refl

pub asked_takes_four : answered (after 1 1 (0 ∷ []) asking) 0 ≡ Ok (Answer.Asked true (most_steps asked))
unfolding run upd ℕ_discrete below opening_of begun_of verdict_of log_in log2 segment_of offset_of size_of
asked_takes_four = refl

pub a_write_takes_eleven : answered (after 2 2 (0 ∷ 0 ∷ []) losing) 0 ≡ Ok (Answer.Written (most_steps (write 9)))
unfolding run upd ℕ_discrete below opening_of begun_of verdict_of log_in log2 segment_of offset_of size_of
a_write_takes_eleven = refl

pub thirty_words : full.world.state.top ≡ 30
unfolding run upd sum ℕ_discrete below opening_of begun_of verdict_of log_in log2 segment_of offset_of size_of
thirty_words = refl

pub of_thirty_four : pool_bound (terms 1 8) full.book ≡ 34
unfolding run upd sum ℕ_discrete below opening_of begun_of verdict_of log_in log2 segment_of offset_of size_of
of_thirty_four = refl

pub ten_words : crowd.world.state.top ≡ 10
unfolding run upd sum ℕ_discrete below opening_of begun_of verdict_of log_in log2 segment_of offset_of size_of
ten_words = refl

pub of_fourteen : pool_bound (terms 5 1) crowd.book ≡ 14
unfolding run upd sum ℕ_discrete below opening_of begun_of verdict_of log_in log2 segment_of offset_of size_of
of_fourteen = refl
