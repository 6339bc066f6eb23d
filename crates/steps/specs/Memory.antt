-- The four lent memories, as lists of words.
-- Assumes nothing.
use Rattle.std.specs.Prelude.{ℕ, ◌≡◌, List}
use Rattle.steps.specs.declared.lent.Lent.{Lent}
use Rattle.steps.specs.declared.lent.LentMut.{LentMut}

pub record Memory : Type 0 where
  pub readings : List ℕ
  pub links : List ℕ
  pub directory : List ℕ
  pub pool : List ℕ

abbrev pub memory : List ℕ → List ℕ → List ℕ → List ℕ → Memory
memory readings links directory pool = record { readings = readings; links = links; directory = directory; pool = pool }

-- What is lent to a call, to be read or to be changed.
abbrev pub words : Lent → Memory
words lent = memory lent.readings.now lent.links.now lent.directory.now lent.pool.now

abbrev pub words_mut : LentMut → Memory
words_mut lent = memory lent.readings.now lent.links.now lent.directory.now lent.pool.now

-- A call that is lent memories to change them hands back the same memories, whatever their words.
pub record SameLent (before after : LentMut) : Type 0 where
  pub readings : after.readings.ghost_name ≡ before.readings.ghost_name
  pub links : after.links.ghost_name ≡ before.links.ghost_name
  pub directory : after.directory.ghost_name ≡ before.directory.ghost_name
  pub pool : after.pool.ghost_name ≡ before.pool.ghost_name
