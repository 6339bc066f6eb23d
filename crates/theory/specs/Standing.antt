-- How far an operation stands: whether a write has stored, and where in the own lane a marking stands.
-- Assumes nothing.
use Rattle.std.specs.Prelude.{ℕ, suc, ◌-◌, max}
use Rattle.theory.specs.Base.{upd}
use Rattle.theory.specs.Machine.{Marking, Stage, marking, Lane, idle, busy}

-- a write has stored its reading
abbrev pub After : Stage → Type 0
After Stage.store = ⊥
After Stage.check_link = Unit {0}
After (Stage.check_marks S) = Unit {0}
After (Stage.check_directory S) = Unit {0}
After (Stage.check_mark S) = Unit {0}
After Stage.fetch = Unit {0}
After (marking k) = Unit {0}

-- at no place; at place n before its mark is stored, its segment drawn and not yet entered, storing it, and with the
-- marks in force raised over it, which may be taken back
pub data Standing : Type 0 where
  nowhere : Standing
  making : ℕ → Standing
  entering : ℕ → Standing
  stamping : ℕ → Standing
  hanging : ℕ → Standing

abbrev pub standing_in : Marking → Standing
standing_in (Marking.draw s S n) = making n
standing_in (Marking.enter s S n) = entering n
standing_in (Marking.tombstone S n) = stamping n
standing_in (Marking.mark S n) = stamping n
standing_in (Marking.force S n) = making n
standing_in (Marking.swap S n) = hanging n
standing_in (Marking.take_back n) = hanging n

abbrev pub standing_at : Stage → Standing
standing_at Stage.store = nowhere
standing_at Stage.check_link = nowhere
standing_at (Stage.check_marks S) = nowhere
standing_at (Stage.check_directory S) = nowhere
standing_at (Stage.check_mark S) = nowhere
standing_at Stage.fetch = nowhere
standing_at (marking k) = standing_in k

-- of c marks in force, those that no take-back can touch
abbrev pub settled_by : Standing → ℕ → ℕ
settled_by nowhere c = c
settled_by (making n) c = c
settled_by (entering n) c = c
settled_by (stamping n) c = c
settled_by (hanging n) c = n

-- the places that are accounted for
abbrev pub front_by : Standing → ℕ → ℕ
front_by nowhere c = c
front_by (making n) c = n
front_by (entering n) c = n
front_by (stamping n) c = n
front_by (hanging n) c = n

-- of d segments drawn, those whose starts stand in the directory
abbrev pub ready_by : Standing → ℕ → ℕ
ready_by nowhere d = d
ready_by (making n) d = d
ready_by (entering n) d = d - 1
ready_by (stamping n) d = d
ready_by (hanging n) d = d

-- how many places of each lane have ever been used, after the step
abbrev pub used_by : Standing → (ℕ → ℕ) → ℕ → ℕ → ℕ
used_by nowhere used q = used
used_by (making n) used q = used
used_by (entering n) used q = used
used_by (stamping n) used q = upd used q (max (used q) (suc n))
used_by (hanging n) used q = used

abbrev pub standing : Lane → Standing
standing idle = nowhere
standing (busy o i g) = standing_at g

abbrev pub settled_at : Stage → ℕ → ℕ
settled_at g = settled_by (standing_at g)

abbrev pub front_at : Stage → ℕ → ℕ
front_at g = front_by (standing_at g)

abbrev pub ready_at : Stage → ℕ → ℕ
ready_at g = ready_by (standing_at g)

abbrev pub used_next : (ℕ → ℕ) → ℕ → Stage → ℕ → ℕ
used_next used q g = used_by (standing_at g) used q

abbrev pub settled : Lane → ℕ → ℕ
settled l = settled_by (standing l)

abbrev pub front : Lane → ℕ → ℕ
front l = front_by (standing l)

abbrev pub ready : Lane → ℕ → ℕ
ready l = ready_by (standing l)
