-- "What is decided stays decided, whoever is scheduled next": each run has an order such that a longer run's is the
-- shorter one's with entries put after it (strong linearizability). An unfinished read or question may have a place too.
-- Assumes nothing.
use Rattle.std.specs.Prelude.{ℕ, ◌<◌, List, ◌++◌}
use Rattle.numbers.specs.Numbers.{fill_of}
use Rattle.acts.specs.Worlds.{Machine, Call, Accepted, opened_world}
use Rattle.theory.specs.Order.{Entry, OrderOf, Grown}
use Rattle.demands.specs.Types.{Terms, Memory}
use Rattle.demands.specs.Kinds.{Kind}
use Rattle.demands.specs.Book.{Book, run, start}
use Rattle.demands.specs.Demand2.{UnderWay}

-- The entry is an operation under way, of any kind, that has its place: at a call already made, with its answer.
pub record Placed (b : Book) (e : Entry) : Type 0 where
  pub under_way : UnderWay b e
  pub early : e.at < b.now

-- Of calls of any form, where `book` has what is written down of them from the start: one order after any calls, and
-- after more calls the same order with entries put after it. `Besides`: what may stand in it besides ended operations.
pub record GrowingWith (Besides : Book → Entry → Type 0) {C : Type 0} (f : ℕ → ℕ) (book : List C → Book) : Type 0 where
  pub orders : (calls : List C) → OrderOf f (book calls).ended (Besides (book calls))
  pub grows : (calls more : List C) → Grown (orders calls).order (orders (calls ++ more)).order

abbrev pub Growing : {C : Type 0} → (ℕ → ℕ) → (List C → Book) → Type 0
Growing f book = GrowingWith Placed f book

-- Of a machine: for any numbers, any memory that open accepts.
module _ {S A : Type 0} (K : Kind S A) (M : Machine S A) where
  abbrev pub book_of : (z : Terms) → Memory → List (Call A z) → Book
  book_of z mem calls = (run K M (start (opened_world M z mem)) calls).book

  abbrev pub OrderGrows : Type 0
  OrderGrows = (z : Terms) (mem : Memory) → Accepted M z mem → Growing (fill_of z.first z.step) (book_of z mem)
