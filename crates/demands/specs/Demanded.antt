-- All that is demanded of a machine: demand 1, the step list, and of every run from an accepted opening the rest.
-- Assumes nothing.
use Rattle.std.specs.Prelude.{◌≡◌, ◌≢◌, Bool, true, false, not, List, [], ◌∷◌, ltb, Err}
use Rattle.numbers.specs.Numbers.{fill_of}
use Rattle.numbers.specs.Cells.{cell_fits}
use Rattle.refusals.specs.Orders.{◌gives◌, orders}
use Rattle.acts.specs.Worlds.{Machine, Call, begin, step, misfit, answer_to, Accepted, opened_world}
use Rattle.demands.specs.Types.{Refusal, Terms, State, Memory, Ask}
use Rattle.demands.specs.Kinds.{Kind, writing}
use Rattle.demands.specs.Book.{Doing, nothing, busy, Book, Run, run, start}
use Rattle.demands.specs.Agrees.{Agrees}
use Rattle.demands.specs.Demand1.{Said, refused, begins, steps, said, Demand1}
use Rattle.demands.specs.Demand2.{ByTheList, OneOrder}
use Rattle.demands.specs.Demand3.{Counted, PoolSpent, PoolSuffices}

-- REFUSALS IN A RUN, from the book
abbrev pub is_busy : Doing → Bool
is_busy nothing = false
is_busy (busy began o i taken) = true

module _ {S A : Type 0} (K : Kind S A) where
  -- Begin is refused with 4, 6, 5; a step with 4, 7; a step that brings memories of other lengths with 8. "9 never occurs."
  abbrev pub expected : {z : Terms} → Book → Call A z → Said
  expected {z} b (begin q a) =
      orders refused
      (not (ltb q z.p) gives Refusal.NoSuchProcess
      ∷ is_busy (b.doing q) gives Refusal.UnderWay
      ∷ not (cell_fits z (K.cell a)) gives Refusal.NoSuchCell
      ∷ [])
      begins
  expected {z} b (step q) =
      orders refused (not (ltb q z.p) gives Refusal.NoSuchProcess ∷ not (is_busy (b.doing q)) gives Refusal.NothingUnderWay ∷ []) steps
  expected b (misfit q mem h) = refused Refusal.OtherLengths

  -- What holds after any calls, of a grid opened with these terms.
  pub record Meets (M : Machine S A) (z : Terms) (r : Run S) : Type 0 where
    pub agrees : Agrees z (K.grid r.world.state) r.book
    pub one_order : OneOrder (fill_of z.first z.step) r.book
    pub counted : Counted M r
    pub pool_spent : PoolSpent z (K.grid r.world.state) r.book
    pub pool_suffices : PoolSuffices z (K.grid r.world.state)
    pub refusals : (c : Call A z) → said (answer_to M r.world c) ≡ expected r.book c
    pub never_nine : (c : Call A z) → answer_to M r.world c ≢ Err Refusal.OutOfRange

  -- "Under the same terms": any numbers, any memory that open accepts, any calls.
  pub record DemandedOf (M : Machine S A) : Type 0 where
    pub demand_1 : Demand1 K M
    pub by_the_list : ByTheList K M
    pub runs : (z : Terms) (mem : Memory) → Accepted M z mem → (calls : List (Call A z)) → Meets M z (run K M (start (opened_world M z mem)) calls)

-- Of a machine of document 01's array.
abbrev pub Demanded : Machine State Ask → Type 0
Demanded M = DemandedOf writing M
