-- A grid's numbers and its cells: which it may have, and the three parts that a cell's number plays.
-- Assumes nothing.
use Rattle.std.specs.Prelude.{ℕ, Bool, ◌&&◌, nat_le, nat_lt}
use Rattle.numbers.specs.declared.Cell.{Cell}
use Rattle.numbers.specs.declared.Terms.{Terms}
use Rattle.numbers.specs.Numbers.{most_processes, most_cells, fill_of}

-- Processes p: 1 to 16. Cells m: 1 to 65,536.
abbrev pub one_to : ℕ → ℕ → Bool
one_to n most = nat_le 1 n && nat_le n most

abbrev pub processes_fit : ℕ → Bool
processes_fit p = one_to p most_processes

abbrev pub cells_fit : ℕ → Bool
cells_fit m = one_to m most_cells

-- A cell of the grid is below m.
abbrev pub cell_fits : Terms → Cell → Bool
cell_fits z i = nat_lt i.0 z.m

-- A pool word holds a cell number, or the tombstone: the mark that stands for the cell.
abbrev pub mark_of : Cell → ℕ
mark_of i = i.0

-- Readings and links, m words each: where the cell's lie.
abbrev pub index_of : Terms → Cell → ℕ
index_of z i = i.0

-- The cell whose words lie at an index.
abbrev pub cell_at : Terms → ℕ → Cell
cell_at z k = record { 0 = k }

-- Filling rule: what the cell holds before any write.
abbrev pub fill_at : Terms → Cell → ℕ
fill_at z i = fill_of z.first z.step i.0
