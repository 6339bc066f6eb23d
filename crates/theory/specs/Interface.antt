-- What the crates above use: the machine, one order, and what their statements are made of.
-- Assumes nothing.
pub use Rattle.theory.specs.Base.{pick, upd_same, upd_other}
unfoldable pub use Rattle.theory.specs.Base.{upd}
pub use Rattle.theory.specs.Array.{Op, read, asked, write, Ans, got, told, done}
pub use Rattle.theory.specs.Order.{Done, Entry, Orderly, Is, OrderOf, Grown, Before, value_in, written_in}
pub use Rattle.theory.specs.OrderLaws.{unique, order_as, grown_same, grown_on, grown_keeps}
pub use Rattle.theory.specs.Shape.{Shape}
-- the machine
pub use Rattle.theory.specs.Machine.{Grid, most_marks, pool_words, Link, mk, Seen}
pub use Rattle.theory.specs.Machine.{Marking, draw, enter, tombstone, mark, force, swap, take_back}
pub use Rattle.theory.specs.Machine.{Stage, store, check_link, check_marks, check_directory, check_mark, fetch, marking, Lane, idle, busy}
pub use Rattle.theory.specs.Machine.{Mem, Change, keep, set_reading, set_link, set_in_force, set_drawn, set_mark, Next, go, end, Turn, turn_to, poke}
pub use Rattle.theory.specs.Machine.{word_of, use_place, look, passed, plan, failed, mark_turn, take_turn}
pub use Rattle.theory.specs.Machine.{Watch, first_stage, next_lane, finish, pass, started, stepped}
unfoldable pub use Rattle.theory.specs.Machine.{same_link, opened}
pub use Rattle.theory.specs.Words.{Words, address, words_marked, words_after}
pub use Rattle.theory.specs.Run.{Tally, tallied, Call, begin, step, Run, pass_run, begin_run, step_run, call_begin, call_step, after_call, opened_run}
unfoldable pub use Rattle.theory.specs.Run.{after_calls}
-- the invariant
pub use Rattle.theory.specs.Machine.{Lawful}
-- what its consequences say
unfoldable pub use Rattle.theory.specs.Sum.{sum}
pub use Rattle.theory.specs.Standing.{front, front_at}
pub use Rattle.theory.specs.OneOrder.{Under, Pending, OneOrder}
pub use Rattle.theory.specs.Ticks.{bound}
pub use Rattle.theory.specs.Touch.{Inside, TouchIn, Touch}
pub use Rattle.theory.specs.RealTime.{ended_first, real_time_order, new_after_old}
