-- What callers may use of a cell's three parts, in place of their text.
-- Assumes nothing.
use Rattle.std.specs.Prelude.{◌≡◌, ℕ, ◌<◌, ◌≤◌, true, ◌≢◌, refl}
use Rattle.std.proofs.Common.{arith, ltb-true, lt-ltb}
use Rattle.numbers.specs.declared.Cell.{Cell}
use Rattle.numbers.specs.declared.Terms.{Terms}
use Rattle.numbers.specs.Numbers.{most_cells, tombstone}
use Rattle.numbers.specs.Cells.{cell_fits, mark_of, index_of, cell_at}

-- A cell of the grid lies inside its memories of m words.
pub index_inside : (z : Terms) (i : Cell) → cell_fits z i ≡ true → index_of z i < z.m
index_inside z i h = ltb-true i.0 z.m h

-- What lies inside them is a cell's.
pub cell_inside : (z : Terms) (i : Cell) → index_of z i < z.m → cell_fits z i ≡ true
cell_inside z i h = lt-ltb i.0 z.m h

-- The cell at an index, and back.
pub cell_at_lem : (z : Terms) (i : Cell) → cell_fits z i ≡ true → cell_at z (index_of z i) ≡ i
cell_at_lem z i h = refl

pub index_at : (z : Terms) (k : ℕ) → k < z.m → index_of z (cell_at z k) ≡ k
index_at z k h = refl

-- The mark of a cell of the grid is not the tombstone.
pub mark_apart : (z : Terms) (i : Cell) → z.m ≤ most_cells → cell_fits z i ≡ true → tombstone ≢ mark_of i
mark_apart z i few h e = let k = index_inside z i h in let y : ⊥ = omega arith in y

-- Marks tell cells apart, and so do indices.
pub marks_apart : (i j : Cell) → mark_of i ≡ mark_of j → i ≡ j
marks_apart i j e = λ k. record { 0 = e k }

pub indices_apart : (z : Terms) (i j : Cell) → index_of z i ≡ index_of z j → i ≡ j
indices_apart z i j e = λ k. record { 0 = e k }
