-- On a run at rest, the cells listed for the planners are those that the array of demand 2 has a write of, with its values; and when
-- the text is refused, on any run.
-- Assumes nothing.
use Rattle.std.specs.Prelude.{ℕ, ◌<◌, ◌≡◌, not, List, [], ◌∷◌, ◌++◌, ltb, length, Ok, Err}
use Rattle.logic.specs.Pick.{pick}
use Rattle.lists.specs.Lists.{gathered}
use Rattle.byte_lists.specs.Bytes.{splice}
use Rattle.refusals.specs.Orders.{Rule, ◌gives◌, orders}
use Rattle.planners_text.specs.PlannersText.{header, line_of, text_of, Page, page, write_of}
use Rattle.planners_text.specs.Sheet.{Row, row, written_below}
use Rattle.theory.specs.Order.{Entry, value_in, written_in}
use Rattle.demands.specs.Types.{Refusal, Terms, State}
use Rattle.demands.specs.Book.{Book, Run}
use Rattle.demands.specs.Demand2.{OneOrder}
use Rattle.resting.specs.AtRest.{Resting, rests_in, UnderWay, filled}

-- The cells below n that a write precedes at the end of an order, with the array's values, in rising order; and their lines.
abbrev pub array_below : (ℕ → ℕ) → List Entry → ℕ → List Row
array_below f order n = gathered n (λ (i : ℕ). pick (written_in order i) (row i (value_in f order i) ∷ []) [])

abbrev pub array_text : (ℕ → ℕ) → List Entry → ℕ → List ℕ
array_text f order n = header ++ gathered n (λ (i : ℕ). pick (written_in order i) (line_of i (value_in f order i)) [])

-- A text written in a run, by the book: 10 with an operation under way, then 17 if it is longer than the buffer. 9 and 8 never occur.
abbrev pub refusals_in : Terms → Book → List ℕ → List ℕ → List Rule
refusals_in z b text out = not (rests_in z b) gives Refusal.AtWork ∷ ltb (length out) (length text) gives Refusal.NoRoom ∷ []

abbrev pub write_in : Terms → Book → List ℕ → List ℕ → Page
write_in z b text out = orders (λ r. page (Err r) out) (refusals_in z b text out) (page (Ok (length text)) (splice out 0 text))

-- One order, as demand 2 has it, of which at rest the text and its rows tell; and what writing comes to, into any buffer.
pub record OnPaper (z : Terms) (r : Run State) : Type 0 where
  pub one_order : OneOrder (filled z) r.book
  pub rows : Resting z r → written_below r.world.state r.world.memory z.m ≡ array_below (filled z) one_order.order z.m
  pub text : Resting z r → text_of r.world.state r.world.memory ≡ array_text (filled z) one_order.order z.m
  pub writes : (out : List ℕ) → write_of r.world.state r.world.memory out ≡ write_in z r.book (text_of r.world.state r.world.memory) out

-- At rest the text is refused with 17 alone, and exactly if it is longer than the buffer.
pub record SeventeenAlone (z : Terms) (r : Run State) (out : List ℕ) : Type 0 where
  pub alone : (e : Refusal) → (write_of r.world.state r.world.memory out).answer ≡ Err e
      → (e ≡ Refusal.NoRoom) × (length out < length (text_of r.world.state r.world.memory))
  pub exactly : length out < length (text_of r.world.state r.world.memory)
      → write_of r.world.state r.world.memory out ≡ page (Err Refusal.NoRoom) out

-- With an operation under way it is refused with 10.
abbrev pub TenUnderWay : Terms → Run State → Type 0
TenUnderWay z r = (out : List ℕ) → UnderWay z r → write_of r.world.state r.world.memory out ≡ page (Err Refusal.AtWork) out
