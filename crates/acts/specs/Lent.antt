-- What an accepted open says of its terms and of the lent memories: read off once.
-- Assumes nothing.
use Rattle.std.specs.Prelude.{ℕ, ◌≤◌, Bool, not, ◌&&◌, leb, eqb, length, Ok, Err}
use Rattle.std.proofs.Math.Path.{◌≡◌, refl}
use Rattle.std.proofs.Math.Bool.{true, false}
use Rattle.std.proofs.Common.{arith, leb-true, le-leb, eqb-true, eq-eqb}
use Rattle.logic.specs.Pick.{pick}
use Rattle.logic.specs.Truth.{and_left, and_right}
use Rattle.numbers.specs.Numbers.{most_processes, most_cells, directory_words, pool_words}
use Rattle.numbers.specs.Cells.{processes_fit, cells_fit}
use Rattle.numbers.specs.declared.Terms.{Terms}
use Rattle.refusals.specs.declared.Refusal.TheVariants as Refusal
use Rattle.lanes.specs.Ranges.{sizes_fit}
use Rattle.steps.specs.Memory.{Memory}
use Rattle.acts.specs.Calls.{Opening}
use Rattle.acts.specs.Calls.{lengths_fit, opening_of, opened_as, open_of}

pub record Bounds (z : Terms) : Type 0 where
  pub p_low : 1 ≤ z.p
  pub p_high : z.p ≤ most_processes
  pub m_low : 1 ≤ z.m
  pub m_high : z.m ≤ most_cells

pub record Lengths (z : Terms) (mem : Memory) : Type 0 where
  pub readings : length mem.readings ≡ z.m
  pub links : length mem.links ≡ z.m
  pub directory : length mem.directory ≡ directory_words z.p
  pub pool : length mem.pool ≡ pool_words z.p z.m

pub bounds_fit : {z : Terms} → Bounds z → (top : ℕ) → top ≤ pool_words z.p z.m → sizes_fit z top ≡ true
bounds_fit {z} B top h =
    rw (le-leb 1 z.p B.p_low, le-leb z.p most_processes B.p_high, le-leb 1 z.m B.m_low, le-leb z.m most_cells B.m_high)
    (le-leb top (pool_words z.p z.m) h)

pub lengths_fit_lem : {z : Terms} {mem : Memory} → Lengths z mem → lengths_fit z mem ≡ true
lengths_fit_lem {z} {mem} L =
    rw (
      eq-eqb (length mem.readings) z.m L.readings,
      eq-eqb (length mem.links) z.m L.links,
      eq-eqb (length mem.directory) (directory_words z.p) L.directory,
    ) (eq-eqb (length mem.pool) (pool_words z.p z.m) L.pool)

module _ (z : Terms) (mem : Memory) where
  bounds_of : processes_fit z.p ≡ true → cells_fit z.m ≡ true → Bounds z
  bounds_of a c = record {
    p_low = leb-true 1 z.p (and_left (leb 1 z.p) (leb z.p most_processes) a);
    p_high = leb-true z.p most_processes (and_right (leb 1 z.p) (leb z.p most_processes) a);
    m_low = leb-true 1 z.m (and_left (leb 1 z.m) (leb z.m most_cells) c);
    m_high = leb-true z.m most_cells (and_right (leb 1 z.m) (leb z.m most_cells) c);
  }

  -- The lengths as equations.
  pub lent_as : lengths_fit z mem ≡ true → Lengths z mem
  lent_as h =
      let d = eqb (length mem.directory) (directory_words z.p) in
      let o = eqb (length mem.pool) (pool_words z.p z.m) in
      let k = eqb (length mem.links) z.m in
      let r1 = and_right (eqb (length mem.readings) z.m) (k && (d && o)) h in
      let r2 = and_right k (d && o) r1 in
      record {
        readings = eqb-true (length mem.readings) z.m (and_left (eqb (length mem.readings) z.m) (k && (d && o)) h);
        links = eqb-true (length mem.links) z.m (and_left k (d && o) r1);
        directory = eqb-true (length mem.directory) (directory_words z.p) (and_left d o r2);
        pool = eqb-true (length mem.pool) (pool_words z.p z.m) (and_right d o r2);
      }

  pub record Admitted : Type 0 where
    pub bounds : Bounds z
    pub lengths : Lengths z mem

  pub opening_open : (open_of z mem).opening ≡ Ok tt → opening_of z mem ≡ Ok tt
  opening_open e = by (opening_of z mem) e
    where
      by : (o : Opening) → (opened_as z o).opening ≡ Ok tt → o ≡ Ok tt
      by (Ok u) h = refl
      by (Err r) h = h

  abbrev accepted : Opening
  accepted = Ok tt

  pub admitted : opening_of z mem ≡ Ok tt → Admitted
  unfolding opening_of
  admitted = by (processes_fit z.p) refl (cells_fit z.m) refl (lengths_fit z mem) refl
    where
      by : (x : Bool) → processes_fit z.p ≡ x → (y : Bool) → cells_fit z.m ≡ y → (w : Bool) → lengths_fit z mem ≡ w
          → pick (not x) (Err Refusal.ProcessCount) (pick (not y) (Err Refusal.CellCount)
          (pick (not w) (Err Refusal.LentLength) accepted)) ≡ accepted → Admitted
      by false a y c w d h = absurd (let k : ◌≡◌ {A = ℕ} 0 1 = cc in omega arith)
      by true a false c w d h = absurd (let k : ◌≡◌ {A = ℕ} 0 1 = cc in omega arith)
      by true a true c false d h = absurd (let k : ◌≡◌ {A = ℕ} 0 1 = cc in omega arith)
      by true a true c true d h = record { bounds = bounds_of a c; lengths = lent_as d }
