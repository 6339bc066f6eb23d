-- After any calls, with no operation under way: what is found of each cell is what the array of demand 2 holds in the end, and
-- the hour summary is over exactly the cells that the array has a write of. With one under way the summary is refused with 10.
-- Assumes nothing.
use Rattle.std.specs.Prelude.{Result, ℕ, ◌*◌, ◌/◌, ◌≤◌, ◌<◌, ◌≡◌, Bool, true, false, not, ◌⊎◌, ltb, eqb, length, Option, None, Some, Ok, Err}
use mathlib.Core.List.{List, [], ◌∷◌, Memᴰ}
use Rattle.logic.specs.Pick.{pick}
use Rattle.logic.specs.Below.{below}
use Rattle.numbers.specs.Numbers.{fill_of}
use Rattle.numbers.specs.Cells.{cell_at}
use Rattle.refusals.specs.Orders.{◌gives◌, orders}
use Rattle.quiet.specs.Quiet.{looked_at, reading_at, quarter_as}
use Rattle.summary.specs.declared.Hour.{Hour}
use Rattle.summary.specs.Summary.{hour_of, four_from, summary_of}
use Rattle.theory.specs.Order.{Done, Entry, Is, value_in, written_in}
use Rattle.demands.specs.Types.{Refusal, Cell, Terms, State, Found}
use Rattle.demands.specs.Book.{nothing, Book, Run}
use Rattle.demands.specs.Demand2.{OneOrder}
use Rattle.demands.specs.Demanded.{is_busy}

-- The book shows no process below p at work.
abbrev pub Resting : Terms → Run State → Type 0
Resting z r = (q : ℕ) → q < z.p → r.book.doing q ≡ nothing

-- The same as a test; and that some process below p is at work.
abbrev pub rests_in : Terms → Book → Bool
rests_in z b = below z.p (λ (q : ℕ). not (is_busy (b.doing q)))

abbrev pub UnderWay : Terms → Run State → Type 0
UnderWay z r = (q : ℕ) × (q < z.p) × (is_busy (r.book.doing q) ≡ true)

-- A check that has ended tells whether the cell is written.
abbrev pub Tells : Option Found → Bool → Type 0
Tells None t = ⊥
Tells (Some (Found.On c)) t = ⊥
Tells (Some (Found.NotWritten link)) t = t ≡ false
Tells (Some Found.Written) t = t ≡ true

-- Cell i, looked at after the run.
abbrev pub looked : Run State → Cell → Option Found
looked r i = looked_at r.world.state i r.world.memory.links r.world.memory.directory r.world.memory.pool

-- What the array holds at first.
abbrev pub filled : Terms → ℕ → ℕ
filled z = fill_of z.first z.step

-- The array's values, at the end of an order, of those of the cells that a write precedes.
abbrev pub values_of : (ℕ → ℕ) → List Entry → List ℕ → List ℕ
values_of f order [] = []
values_of f order (i ∷ is) = pick (written_in order i) (value_in f order i ∷ values_of f order is) (values_of f order is)

-- Hour h of the array: cells 4h to 4h + 3.
abbrev pub hour_in : (ℕ → ℕ) → List Entry → ℕ → List ℕ
hour_in f order h = values_of f order (four_from (4 * h))

-- The summary of hour h in a run, from the book and the array's values of that hour: 10, 5, 18. 9 and 8 never occur.
abbrev pub summary_in : Terms → Book → ℕ → List ℕ → Result Hour Refusal
summary_in z b h values =
    orders Err
    (not (rests_in z b) gives Refusal.AtWork ∷ not (ltb h (z.m / 4)) gives Refusal.NoSuchCell ∷ eqb (length values) 0 gives Refusal.NothingWritten ∷ [])
    (Ok (hour_of values))

-- A refusal of the summary of hour h: 5 for an hour that is not there, 18 for one of which no value is written.
abbrev pub FiveOrEighteen : Terms → ℕ → List ℕ → Refusal → Type 0
FiveOrEighteen z h values r = ((z.m / 4 ≤ h) × (r ≡ Refusal.NoSuchCell)) ⊎ ((h < z.m / 4) × (values ≡ []) × (r ≡ Refusal.NothingWritten))

-- What a run at rest shows of a grid opened with terms z, against an order of demand 2. All in it have finished. Each cell is
-- found written exactly if the array has a write of it in that order, and its reading is the array's value.
pub record AtRest (z : Terms) (r : Run State) (order : List Entry) : Type 0 where
  pub finished : (e : Entry) → Memᴰ e order → (d : Done) × Memᴰ d r.book.ended × Is e d
  pub written : (i : ℕ) → i < z.m → Tells (looked r (cell_at z i)) (written_in order i)
  pub reading : (i : ℕ) → i < z.m
      → reading_at r.world.state (cell_at z i) r.world.memory ≡ Some (quarter_as (value_in (filled z) order i) (written_in order i))

-- What any run shows. There is one order, as demand 2 has it; the summary answers by the book and by the array that it gives.
pub record Shown (z : Terms) (r : Run State) : Type 0 where
  pub one_order : OneOrder (filled z) r.book
  pub at_rest : Resting z r → AtRest z r one_order.order
  pub summary : (h : ℕ) → summary_of r.world.state h r.world.memory ≡ summary_in z r.book h (hour_in (filled z) one_order.order h)

-- With an operation under way the summary of every hour is refused with 10.
abbrev pub TenUnderWay : Terms → Run State → Type 0
TenUnderWay z r = (h : ℕ) → UnderWay z r → summary_of r.world.state h r.world.memory ≡ Err Refusal.AtWork
