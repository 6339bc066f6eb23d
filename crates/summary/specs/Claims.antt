-- What is claimed of the hour summary. (It changes nothing by its type: the state goes in by value and is not handed back, and the
-- memories are lent to be read.) Definitions only: `Outcomes` has the proofs.
-- Assumes nothing.
use Rattle.std.specs.Prelude.{ℕ, ◌≡◌, Result}
use Rattle.logic.specs.Determined.{Determined}
use Rattle.refusals.specs.declared.Refusal.{Refusal}
use Rattle.lanes.specs.declared.State.{State}
use Rattle.steps.specs.Memory.{Memory}
use Rattle.summary.specs.declared.Hour.{Hour}
use Rattle.summary.specs.Summary.{summary_of}

-- Any two outcomes that meet the promise coincide.
abbrev pub OneSummary : Type 0
OneSummary = (s : State) (h : ℕ) (mem : Memory) → Determined (λ (r : Result Hour Refusal). r ≡ summary_of s h mem)

-- No quarter counts with the filling rule: another rule changes nothing.
abbrev pub filled_by : ℕ → ℕ → State → State
filled_by first step s =
    record { terms = record { p = s.terms.p; m = s.terms.m; first = first; step = step }; top = s.top; lanes = s.lanes }

abbrev pub WithoutFilling : Type 0
WithoutFilling = (s : State) (first step h : ℕ) (mem : Memory) → summary_of (filled_by first step s) h mem ≡ summary_of s h mem
