-- What a change makes of all that a step can reach.
-- Assumes nothing.
use Rattle.std.specs.Prelude.{ℕ, ◌+◌, [], set}
use Rattle.numbers.specs.Numbers.{offset_of}
use Rattle.lanes.specs.declared.Lane.{Lane}
use Rattle.lanes.specs.Ranges.{rest}
use Rattle.steps.specs.declared.Change.{Change}
use Rattle.steps.specs.Memory.{Memory, memory}

-- A step can reach its process's lane, the pool's top and the lent memories.
pub record Reach : Type 0 where
  pub lane : Lane
  pub top : ℕ
  pub memory : Memory

abbrev pub reach : Lane → ℕ → Memory → Reach
reach l top mem = record { lane = l; top = top; memory = mem }

abbrev pub with_marks : Lane → ℕ → Lane
with_marks l n = record { marks = n; drawn = l.drawn; steps = l.steps; op = l.op }

abbrev pub with_drawn : Lane → ℕ → Lane
with_drawn l n = record { marks = l.marks; drawn = n; steps = l.steps; op = l.op }

-- One shared word changes, and nothing else.
abbrev pub apply : Change → Reach → Reach
apply Change.Nothing r = r
apply (Change.Reading i v) r =
    reach r.lane r.top (memory (set r.memory.readings i v) r.memory.links r.memory.directory r.memory.pool)
apply (Change.Link i w) r =
    reach r.lane r.top (memory r.memory.readings (set r.memory.links i w) r.memory.directory r.memory.pool)
apply (Change.Directory k start) r =
    reach r.lane r.top (memory r.memory.readings r.memory.links (set r.memory.directory k start) r.memory.pool)
apply (Change.Mark start n mark) r =
    reach r.lane r.top
    (memory r.memory.readings r.memory.links r.memory.directory (set r.memory.pool (start + offset_of n.0) mark))
apply (Change.Marks n) r = reach (with_marks r.lane n) r.top r.memory
apply (Change.Top top drawn) r = reach (with_drawn r.lane drawn) top r.memory

-- The parts of the reach one by one: no other part has a say in them.
abbrev pub nothing : Memory
nothing = memory [] [] [] []

abbrev pub lane_after : Change → Lane → Lane
lane_after change l = (apply change (reach l 0 nothing)).lane

abbrev pub top_after : Change → ℕ → ℕ
top_after change top = (apply change (reach rest top nothing)).top

abbrev pub memory_after : Change → Memory → Memory
memory_after change mem = (apply change (reach rest 0 mem)).memory
