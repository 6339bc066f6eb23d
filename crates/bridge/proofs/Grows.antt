-- The order only grows: after more calls it is the same order with entries put after it.
-- Assumes nothing.
use Rattle.std.specs.Prelude.{ℕ, ◌≡◌}
use Rattle.std.proofs.Common.{◌∙◌, subst}
use mathlib.Core.List.{List, ◌++◌, Memᴰ}
use Rattle.numbers.specs.Numbers.{fill_of}
use Rattle.acts.specs.Worlds.{World, grid, Call}
use Rattle.theory.proofs.Interface as Theory
use Rattle.demands.specs.Types.{Terms, State, Ask}
use Rattle.demands.specs.Kinds.{writing}
use Rattle.demands.specs.Book.{Book, Run, run, start}
use Rattle.demands.specs.Growing.{Placed, GrowingWith, Growing, OrderGrows}
use Rattle.bridge.proofs.Good.{law}
use Rattle.bridge.proofs.Runs.{GoodWith, later, keeps, opened_as_lem, fresh_good}
use Rattle.bridge.specs.Along.{growing}
use Rattle.bridge.proofs.Proved.{under_way}

abbrev fill : Terms → ℕ → ℕ
fill z = fill_of z.first z.step

module _ {z : Terms} where
  abbrev log : {r : Run State} → GoodWith z r → List Theory.Entry
  log H = H.good.whole.log

  -- the order so far of a good run
  abbrev ordered : (r : Run State) → GoodWith z r → Theory.OrderOf (fill z) r.book.ended (Placed r.book)
  ordered r H =
      let O = Theory.order_so_far (law H.good) H.good.whole in
      Theory.order_as
      (record {
        order = log H;
        orderly = subst (λ (z : Terms). Theory.Orderly (fill z) (log H)) H.terms O.orderly;
        complete = O.complete;
        sound = O.sound;
      })
      (λ e m x. record { under_way = under_way H.good e x.0; early = x.1 })

  adds : (r : Run State) (H : GoodWith z r) (c : Call Ask z) → Theory.Grown (log H) (log (keeps r H c))
  adds r H c = (later r H c).grown

-- THE THEOREM
pub only_grows : OrderGrows writing grid
only_grows z mem ok =
    opened_as_lem z mem ok (λ (w : World State). Growing (fill z) (λ (calls : List (Call Ask z)). (run writing grid (start w) calls).book))
    (growing writing grid (GoodWith z) (fill z) ordered keeps adds _ (fresh_good z mem ok))

-- What follows from it, of calls of any form.
module _ {Besides : Book → Theory.Entry → Type 0} {C : Type 0} {f : ℕ → ℕ} {book : List C → Book} (G : GrowingWith Besides f book)
    (calls more : List C) (e : Theory.Entry) (m : Memᴰ e (G.orders calls).order) where
  pub stays : Memᴰ e (G.orders (calls ++ more)).order
  stays = Theory.grown_keeps (G.grows calls more) e m

  pub ends_so : (d : Theory.Done) → Memᴰ d (book (calls ++ more)).ended → d.began ≡ e.began → Theory.Is e d
  ends_so d md k =
      let O = G.orders (calls ++ more) in
      let x = O.complete d md in
      subst (λ (y : Theory.Entry). Theory.Is y d) (Theory.unique f O.order O.orderly x.0 e x.1 stays (x.2.began ∙ k)) x.2
