-- 2. "Each step does to state and memory what the papers' step list says for it, and no more. … Then all finished
-- operations, together with some of the unfinished writes, can be put in one order, none before its beginning, a finished
-- one not after its last step. In that order every answer is the one the array … gives, filled at first by the chosen rule."
-- Assumes nothing.
use Rattle.std.specs.Prelude.{ℕ, ◌≡◌}
use Rattle.acts.specs.Worlds.{Machine}
use Rattle.theory.specs.Array.{Writing}
use Rattle.theory.specs.Order.{Entry, OrderOf}
use Rattle.demands.specs.Types.{Terms, Memory}
use Rattle.demands.specs.Kinds.{Kind}
use Rattle.demands.specs.Book.{busy, Book}

-- In any state and memory: what a call makes of them is what the definitions of the kind's step list make of them.
pub record ByTheList {S A : Type 0} (K : Kind S A) (M : Machine S A) : Type 0 where
  pub opens : (z : Terms) (mem : Memory) → M.opens z mem ≡ K.ours.opens z mem
  pub begins : (s : S) (q : ℕ) (a : A) → M.begin s q a ≡ K.ours.begin s q a
  pub steps : (s : S) (q : ℕ) (mem : Memory) → M.step s q mem ≡ K.ours.step s q mem

-- The entry is an operation that the book shows under way; and one that counts as a write.
pub record UnderWay (b : Book) (e : Entry) : Type 0 where
  pub taken : ℕ
  pub doing : b.doing e.who ≡ busy e.began e.op e.cell taken

pub record Unfinished (b : Book) (e : Entry) : Type 0 where
  pub under_way : UnderWay b e
  pub writes : Writing e.op

-- One order, the newest first. `Orderly`: each answer is the array's after those before it; each operation takes its
-- place after the call that began it, and not before any of those before it; none stands twice. `Is`: a finished
-- operation stands with its process, cell and answer, and takes its place not after its last step.
abbrev pub OneOrder : (ℕ → ℕ) → Book → Type 0
OneOrder f b = OrderOf f b.ended (Unfinished b)
