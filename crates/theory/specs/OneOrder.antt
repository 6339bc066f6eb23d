-- One order of a run: all ended operations and some writes under way, and nothing else.
-- Assumes nothing.
use Rattle.std.specs.Prelude.{◌≡◌, ℕ}
use Rattle.theory.specs.Array.{write}
use Rattle.theory.specs.Order.{Entry, OrderOf}
use Rattle.theory.specs.Machine.{Stage, busy, Watch}

-- the entry is an operation under way
pub record Under (w : Watch) (e : Entry) : Type 0 where
  pub stage : Stage
  pub lane : w.lane e.who ≡ busy e.op e.cell stage
  pub since : w.since e.who ≡ e.began

-- the entry is a write under way
pub record Pending (w : Watch) (e : Entry) : Type 0 where
  pub under : Under w e
  pub value : ℕ
  pub writes : e.op ≡ write value

-- one order of all ended operations and some writes under way
abbrev pub OneOrder : (ℕ → ℕ) → Watch → Type 0
OneOrder f w = OrderOf f w.ended (Pending w)
