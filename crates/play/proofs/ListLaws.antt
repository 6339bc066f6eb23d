-- A list of records played by one call of the batch: the batch's fold is the records' fold.
-- Assumes nothing.
use Prim.Native.Nat.{ℕ, zero, suc, ◌+◌, ◌-◌, ◌<◌, ◌≤◌}
use mathlib.Core.Path.{◌≡◌, refl, sym, ap, ◌∙◌}
use mathlib.Core.Bool.{Bool, true, false}
use mathlib.Core.List.{List}
use native.Mathlib.Decide.{ℕ_discrete}
use native.Mathlib.Omega.{arith}
use lib.Dec.{ltb}
use lib.ListN.{length, get_or, set, take, length-set, length-take}
use lib.Seq.{get_or-set_same, get_or-set_other, get_or-take}
use borrow.Author.Tests.{lt-ltb, le-ltb, ne_eqb, ltb-true, ltb-false}
use Rattle.numbers.specs.declared.Terms.{Terms}
use Rattle.logic.specs.Pick.{pick}
use Rattle.qhs.specs.declared.Record.{Record}
use Rattle.qhs.specs.Qhs.{most_kind, record_at}
use Rattle.lanes.specs.declared.State.{State}
use Rattle.steps.specs.Memory.{Memory}
use Rattle.acts.specs.declared.Ask.{Ask}
use Rattle.acts.specs.Worlds.{grid, Call, World, world, answer_to, world_after}
use Rattle.batch.specs.Batch.{Batch, batch, entering, entries, batch_of, Told}
use Rattle.batch.specs.Batch as Batches
use Rattle.batch.specs.Fold.{world_of}
use Rattle.batch.specs.Fold as Entries
use Rattle.play.specs.Play.{cell_of, call_of, call_at, after}
use Rattle.play.specs.Inner.{list_records, count_of, kind_of, Listed, Played, Short}

pub kind_low : (d : Record) → d.kind < most_kind → d.kind ≡ kind_of d
kind_low d h = simp (lt-ltb _ _ h)

pub kind_last : (d : Record) → most_kind ≤ d.kind → 3 ≡ kind_of d
kind_last d h = simp (le-ltb _ _ h)

-- a record's call is the call of the entry of its fields
entry_call : (z : Terms) (d : Record) → Entries.call_of {z = z} (kind_of d) d.process (cell_of d) d.value ≡ call_of z d
entry_call z d = by (ℕ_discrete d.kind 0) (ℕ_discrete d.kind 1) (ℕ_discrete d.kind 2)
  where
    by : Dec (d.kind ≡ 0) → Dec (d.kind ≡ 1) → Dec (d.kind ≡ 2) → Entries.call_of {z = z} (kind_of d) d.process (cell_of d) d.value ≡ call_of z d
    by (yes e) y z = rw e
    by (no x) (yes e) z = rw e
    by (no x) (no y) (yes e) = rw e
    by (no x) (no y) (no z) =
        let last : most_kind ≤ d.kind = omega (arith, x, y, z) in
        simp (le-ltb _ _ last, ne_eqb _ _ x, ne_eqb _ _ y, ne_eqb _ _ z)

pub taken_long : (c : ℕ) (xs : List ℕ) → c ≤ length xs → c ≡ length (take c xs)
taken_long c xs h = sym (length-take c xs ∙ omega arith)

-- the first c places of a list hold what a rule says
abbrev pub Holds : (ℕ → ℕ) → ℕ → List ℕ → Type 0
Holds f c xs = (j : ℕ) → j < c → get_or xs j 0 ≡ f j

holds_none : (f : ℕ → ℕ) (xs : List ℕ) → Holds f 0 xs
holds_none f xs j h = absurd (let y : ⊥ = omega arith in y)

holds_more : (f : ℕ → ℕ) (i v : ℕ) (xs : List ℕ) → i < length xs → Holds f i xs → v ≡ f i → Holds f (i + 1) (set xs i v)
holds_more f i v xs low h e j here = by (ℕ_discrete j i)
  where
    by : Dec (j ≡ i) → get_or (set xs i v) j 0 ≡ f j
    by (yes x) = rw x (get_or-set_same xs i v 0 low ∙ e)
    by (no x) = get_or-set_other xs i j v 0 x ∙ h j (omega (arith, here, x))

-- the lists hold the fields of the first i records from `first` on
pub record Fields (bytes : List ℕ) (first i : ℕ) (kinds processes cells values : List ℕ) : Type 0 where
  pub kinds_are : Holds (λ j. kind_of (record_at bytes (first + j))) i kinds
  pub processes_are : Holds (λ j. (record_at bytes (first + j)).process) i processes
  pub cells_are : Holds (λ j. (record_at bytes (first + j)).cell) i cells
  pub values_are : Holds (λ j. (record_at bytes (first + j)).value) i values

-- where the loop stands that fills the lists with c records
pub record Filling (bytes : List ℕ) (first c i : ℕ) (kinds processes cells values : List ℕ) : Type 0 where
  pub low : i ≤ c
  pub fields : Fields bytes first i kinds processes cells values
  pub kinds_long : length kinds ≡ list_records
  pub processes_long : length processes ≡ list_records
  pub cells_long : length cells ≡ list_records
  pub values_long : length values ≡ list_records

module _ (bytes : List ℕ) (first c : ℕ) (kinds processes cells values : List ℕ) where
  pub filling_none : length kinds ≡ list_records → length processes ≡ list_records → length cells ≡ list_records → length values ≡ list_records
      → Filling bytes first c 0 kinds processes cells values
  filling_none k p l v = record {
    low = omega arith;
    fields = record {
      kinds_are = holds_none _ kinds;
      processes_are = holds_none _ processes;
      cells_are = holds_none _ cells;
      values_are = holds_none _ values;
    };
    kinds_long = k;
    processes_long = p;
    cells_long = l;
    values_long = v;
  }

  pub filling_more : (i kind : ℕ) (d : Record) → c ≤ list_records → i < c
      → Filling bytes first c i kinds processes cells values → d ≡ record_at bytes (first + i) → kind ≡ kind_of d
      → Filling bytes first c (i + 1) (set kinds i kind) (set processes i d.process) (set cells i d.cell) (set values i d.value)
  filling_more i kind d few here f e k = record {
    low = omega arith;
    fields = record {
      kinds_are = holds_more _ i kind kinds (omega (arith, f.kinds_long)) f.fields.kinds_are (k ∙ ap kind_of e);
      processes_are = holds_more _ i d.process processes (omega (arith, f.processes_long)) f.fields.processes_are (ap (λ (x : Record). x.process) e);
      cells_are = holds_more _ i d.cell cells (omega (arith, f.cells_long)) f.fields.cells_are (ap (λ (x : Record). x.cell) e);
      values_are = holds_more _ i d.value values (omega (arith, f.values_long)) f.fields.values_are (ap (λ (x : Record). x.value) e);
    };
    kinds_long = length-set kinds i kind ∙ f.kinds_long;
    processes_long = length-set processes i d.process ∙ f.processes_long;
    cells_long = length-set cells i d.cell ∙ f.cells_long;
    values_long = length-set values i d.value ∙ f.values_long;
  }

-- the batch's fold over such lists
module _ (bytes : List ℕ) (w : World State) (first c : ℕ) (kinds processes cells values : List ℕ) (f : Fields bytes first c kinds processes cells values)
    (s : State) (mem : Memory) (words : List ℕ) (start : world s mem ≡ after bytes w first) where
  abbrev at : ℕ → Batch
  at i = Batches.after kinds processes cells values (batch s mem words) i

  abbrev z : Terms
  z = w.state.terms

  abbrev Same : ℕ → Type 0
  Same i = world_of (at i) ≡ after bytes w (first + i)

  call_is : (i : ℕ) → i < c → Entries.call_at z kinds processes cells values i ≡ call_at bytes w (first + i)
  call_is i low =
      rw (f.kinds_are i low, f.processes_are i low, f.cells_are i low, f.values_are i low) (entry_call z (record_at bytes (first + i)))

  same_fold : (i : ℕ) → i ≤ c → Same i
  unfolding after Batches.after
  same_fold zero low = let e : first + 0 ≡ first = omega arith in rw e start
  same_fold (suc i) low =
      let e : first + suc i ≡ suc (first + i) = omega arith in
      rw e
      (Entries.entering_leaves z kinds processes cells values (at i) i
      ∙ ap (λ (a : Call Ask z). world_after grid (world_of (at i)) a) (call_is i (omega arith))
      ∙ ap (λ (x : World State). world_after grid x (call_at bytes w (first + i))) (same_fold i (omega arith)))

  answer_is : (i : ℕ) → i < c
      → (entering kinds processes cells values (at i) i).stepped.answer ≡ answer_to grid (after bytes w (first + i)) (call_at bytes w (first + i))
  answer_is i low =
      Entries.entering_answers z kinds processes cells values (at i) i
      ∙ ap (λ (a : Call Ask z). answer_to grid (world_of (at i)) a) (call_is i low)
      ∙ ap (λ (x : World State). answer_to grid x (call_at bytes w (first + i))) (same_fold i (omega arith))

  listed : (r : State) (mem' : Memory) (words' : List ℕ) → c ≡ entries kinds processes cells values words
      → batch r mem' words' ≡ batch_of s mem words kinds processes cells values
      → Told kinds processes cells values (batch s mem words) (entries kinds processes cells values words) words'
      → Listed bytes w first c (world r mem') words'
  unfolding batch_of
  listed r mem' words' n e t = record {
    is = ap world_of (e ∙ ap at (sym n)) ∙ same_fold c (omega arith);
    says = λ i low. t i (omega (arith, n, low)) ∙ answer_is i low;
  }

-- the shortest of the lists is that of the kinds
pub entries_first : (c : ℕ) (kinds processes cells values words : List ℕ) → c ≡ length kinds → c ≤ length processes → c ≤ length cells → c ≤ length values
    → c ≤ length words → c ≡ entries kinds processes cells values words
entries_first c kinds processes cells values words e p q v w = omega arith

-- the lists filled, and the batch run on as many kinds as there are records
pub played_is : (bytes : List ℕ) (first c i : ℕ) (kinds processes cells values : List ℕ) (s r : State) (mem mem' : Memory)
    (words words' : List ℕ) → Short first c words → c ≤ i
    → Filling bytes first c i kinds processes cells values → batch r mem' words' ≡ batch_of s mem words (take c kinds) processes cells values
    → Told (take c kinds) processes cells values (batch s mem words) (entries (take c kinds) processes cells values words) words'
    → Played bytes first c (world s mem) (world r mem') words'
played_is bytes first c i kinds processes cells values s r mem mem' words words' q high f e t w start =
    listed bytes w first c (take c kinds) processes cells values fields s mem words start r mem' words'
    (entries_first c (take c kinds) processes cells values words (taken_long c kinds (omega (arith, q.few, f.kinds_long)))
    (omega (arith, q.few, f.processes_long)) (omega (arith, q.few, f.cells_long)) (omega (arith, q.few, f.values_long)) q.told)
    e t
  where
    fields : Fields bytes first c (take c kinds) processes cells values
    fields = record {
      kinds_are = λ j low. get_or-take c kinds j 0 low ∙ f.fields.kinds_are j (omega (arith, low, high));
      processes_are = λ j low. f.fields.processes_are j (omega (arith, low, high));
      cells_are = λ j low. f.fields.cells_are j (omega (arith, low, high));
      values_are = λ j low. f.fields.values_are j (omega (arith, low, high));
    }

-- how many records a list has
pub count_all : (left : ℕ) → left < list_records → left ≡ count_of left
count_all left h = simp (lt-ltb _ _ h)

pub count_most : (left : ℕ) → list_records ≤ left → 32 ≡ count_of left
count_most left h = simp (le-ltb _ _ h)

-- no more than are left, and none only where none is left
pub record Counted (c left : ℕ) : Type 0 where
  pub few : c ≤ list_records
  pub low : c ≤ left
  pub some : 0 < left → 0 < c

pub counted : (c left : ℕ) → c ≡ count_of left → Counted c left
counted c left e = by (ltb left list_records) refl e
  where
    by : (x : Bool) → ltb left list_records ≡ x → c ≡ pick x left list_records → Counted c left
    by true h k = let y = ltb-true left list_records h in record { few = omega arith; low = omega arith; some = λ z. omega (arith, k, z) }
    by false h k = let y = ltb-false left list_records h in record { few = omega arith; low = omega arith; some = λ z. omega (arith, k) }

-- the next list starts where this one ends, and that is nearer to the end
module _ (c k n : ℕ) (low : k < n) (e : c ≡ count_of (n - k)) where
  pub count_fits : n < 18446744073709551616 → k + c < 18446744073709551616
  count_fits h = omega (arith, (counted c (n - k) e).low)

  pub count_less : n - (k + c) < n - k
  count_less = omega (arith, (counted c (n - k) e).some (omega arith))
