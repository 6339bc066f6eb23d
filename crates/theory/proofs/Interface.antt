-- What the proofs of the crates above use: the machine, the whole invariant, that every call keeps it, and what follows from it.
-- Assumes nothing.
pub use Rattle.theory.specs.Base.{pick, upd_same, upd_other}
unfoldable pub use Rattle.theory.specs.Base.{upd}
pub use Rattle.theory.specs.Array.{Op, read, asked, write, Ans, got, told, done}
pub use Rattle.theory.specs.Order.{Done, Entry, Orderly, Is, OrderOf, Grown, Before, value_in, written_in}
pub use Rattle.theory.specs.OrderLaws.{unique, order_as, grown_same, grown_on, grown_keeps}
pub use Rattle.theory.specs.Shape.{Shape}
-- the machine
pub use Rattle.theory.specs.Machine.{Grid, most_marks, pool_words, Link, mk, Seen}
pub use Rattle.theory.specs.Machine.{Marking, draw, enter, tombstone, mark, force, swap, take_back}
pub use Rattle.theory.specs.Machine.{Stage, store, check_link, check_marks, check_directory, check_mark, fetch, marking, Lane, idle, busy}
pub use Rattle.theory.specs.Machine.{Mem, Change, keep, set_reading, set_link, set_in_force, set_drawn, set_mark, Next, go, end, Turn, turn_to, poke}
pub use Rattle.theory.specs.Machine.{word_of, use_place, look, passed, plan, failed, mark_turn, take_turn}
pub use Rattle.theory.specs.Machine.{Watch, first_stage, next_lane, finish, pass, started, stepped}
unfoldable pub use Rattle.theory.specs.Machine.{same_link, opened}
pub use Rattle.theory.specs.Words.{Words, address, words_marked, words_after}
pub use Rattle.theory.specs.Run.{Tally, tallied, Call, begin, step, Run, pass_run, begin_run, step_run, call_begin, call_step, after_call, opened_run}
unfoldable pub use Rattle.theory.specs.Run.{after_calls}
-- the invariant
pub use Rattle.theory.specs.Machine.{Lawful}
pub use Rattle.theory.proofs.Whole.{Whole, Later, whole_opened, whole_rest, whole_pass, whole_begin, whole_step, whole_call, whole_run}
-- its consequences
unfoldable pub use Rattle.theory.specs.Sum.{sum}
pub use Rattle.theory.specs.Standing.{front, front_at}
pub use Rattle.theory.specs.OneOrder.{Under, Pending, OneOrder}
pub use Rattle.theory.specs.Ticks.{bound}
pub use Rattle.theory.specs.Touch.{Inside, TouchIn, Touch}
pub use Rattle.theory.proofs.Consequences.{one_order, order_so_far, steps_under_way, pool_bound_lem, top_fits, drawn_fits, marks_fit}
pub use Rattle.theory.proofs.Consequences.{front_fits, process_fits, cell_fits_lem, place_read, touches, mark_read}
pub use Rattle.theory.proofs.AtRest.{CellAtRest, unwritten, written, all_ended, cell_at_rest}
pub use Rattle.theory.specs.RealTime.{ended_first, real_time_order, new_after_old}
-- a part of the cells; operations one after another
pub use Rattle.theory.proofs.Part.{named, named_done, named_is, part_of, part_done, Came, came, stays, part_orderly}
unfoldable pub use Rattle.theory.proofs.Part.{chosen}
pub use Rattle.theory.proofs.Sequence.{deeds_of, answers_of, InTurn, Replies, same_answers, in_turn, part_in_turn}
