-- The theorems by the names a customer uses: for all terms, every memory that open accepts, and all calls.
-- Assumes nothing.
use Rattle.std.specs.Prelude.{ℕ, ◌<◌, ◌≡◌, ◌≢◌, Err}
use Rattle.std.proofs.Common.{ap}
use mathlib.Core.List.{List, ◌++◌, Memᴰ}
use Rattle.numbers.specs.Numbers.{fill_of}
use Rattle.acts.specs.Worlds.{Reply, Result, World, world, grid, Call, begin, step, misfit, answer_to, world_after, Accepted, opened_world}
use Rattle.theory.proofs.Interface as Theory
use Rattle.demands.specs.Types.{Refusal, Terms, State, Memory, Ask}
use Rattle.demands.specs.Kinds.{writing}
use Rattle.demands.specs.Book.{Book, Run, run, start}
use Rattle.demands.specs.Agrees.{Agrees}
use Rattle.demands.specs.Demand1.{said}
use Rattle.demands.specs.Demand2.{OneOrder}
use Rattle.demands.specs.Demand3.{Counted, PoolSpent, PoolSuffices}
use Rattle.demands.specs.Demanded.{expected, Meets}
use Rattle.demands.specs.Vanishing.{NothingVanishes}
use Rattle.demands.specs.Growing.{GrowingWith, OrderGrows}
use Rattle.bridge.specs.Vanish as Vanish
use Rattle.bridge.proofs.Grows as Grows
use Rattle.bridge.proofs.Proved.{demanded}

-- Demand 1: a refused call leaves the world as it was, whatever the world is.
pub a_refusal_changes_nothing : {z : Terms} (w : World State) (c : Call Ask z) (r : Refusal) → answer_to grid w c ≡ Err r → world_after grid w c ≡ w
a_refusal_changes_nothing w (begin q a) r e =
    ap (λ (x : Reply State). world x.state w.memory) (demanded.demand_1.begin_refused w.state q a r e)
a_refusal_changes_nothing w (step q) r e =
    ap (λ (x : Result State). world x.state x.memory) (demanded.demand_1.step_refused w.state q w.memory r e)
a_refusal_changes_nothing w (misfit q mem h) r e =
    ap (λ (x : Result State). world x.state w.memory) (demanded.demand_1.step_refused w.state q mem r e)

-- Of two finished operations, the one that ended before the other began stands first, in every one order.
pub first_stands_first : {f : ℕ → ℕ} {b : Book} (O : OneOrder f b) (d e : Theory.Done) (md : Memᴰ d b.ended) (me : Memᴰ e b.ended)
    → d.ended < e.began → Theory.Before (O.complete d md).0 (O.complete e me).0 O.order
first_stands_first {f} O d e md me before =
    let D = O.complete d md in
    let E = O.complete e me in
    Theory.real_time_order f O.order O.orderly D.0 E.0 D.1 E.1 d e D.2 E.2 before

-- The order only grows (strong linearizability): a longer run's order is the shorter one's with entries put after it.
pub the_order_only_grows : OrderGrows writing grid
the_order_only_grows = Grows.only_grows

-- Hence what is decided stays decided, in every growing order: an operation that has its place has it, with its answer, in
-- every longer run's order; and if it ends there, it ends with that answer, its place not after its last step.
module _ {Besides : Book → Theory.Entry → Type 0} {C : Type 0} {f : ℕ → ℕ} {book : List C → Book} (G : GrowingWith Besides f book)
    (calls more : List C) (e : Theory.Entry) (m : Memᴰ e (G.orders calls).order) where
  pub decided_stays : Memᴰ e (G.orders (calls ++ more)).order
  decided_stays = Grows.stays G calls more e m

  pub ends_as_decided : (d : Theory.Done) → Memᴰ d (book (calls ++ more)).ended → d.began ≡ e.began → Theory.Is e d
  ends_as_decided = Grows.ends_so G calls more e m

-- Demands 2 and 3, after any calls on an opened grid.
module _ (z : Terms) (mem : Memory) (ok : Accepted grid z mem) (calls : List (Call Ask z)) where
  abbrev pub after : Run State
  after = run writing grid (start (opened_world grid z mem)) calls

  met : Meets writing grid z after
  met = demanded.runs z mem ok calls

  pub the_state_agrees : Agrees z after.world.state after.book
  the_state_agrees = met.agrees

  pub one_order : OneOrder (fill_of z.first z.step) after.book
  one_order = met.one_order

  pub counted_steps : Counted grid after
  counted_steps = met.counted

  pub pool_spent : PoolSpent z after.world.state after.book
  pool_spent = met.pool_spent

  pub pool_never_short : PoolSuffices z after.world.state
  pool_never_short = met.pool_suffices

  -- 4, 6, 5 at a beginning, 4, 7 at a step, 8 at a step that brings other memories, exactly when the book says so; hence never 9.
  pub refused_exactly_when : (c : Call Ask z) → said (answer_to grid after.world c) ≡ expected writing after.book c
  refused_exactly_when = met.refusals

  pub never_nine : (c : Call Ask z) → answer_to grid after.world c ≢ Err Refusal.OutOfRange
  never_nine = met.never_nine

  -- What the archive forgot: after an answer that showed a cell written, no later operation finds it empty.
  pub nothing_vanishes : NothingVanishes (fill_of z.first z.step) after.book
  nothing_vanishes = Vanish.nothing_vanishes (fill_of z.first z.step) after.book one_order
