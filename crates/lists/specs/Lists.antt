-- Lists by number: what a rule gives at each number below a bound, in rising order.
-- Assumes nothing.
use Rattle.std.specs.Prelude.{ℕ, zero, suc, Bool, List, [], ◌∷◌, ◌++◌, length, drop}
use Rattle.logic.specs.Pick.{pick}

-- f(0), then f(1), and so on to f(n − 1), one after another.
unfoldable pub gathered : {A : Type 0} → ℕ → (ℕ → List A) → List A
gathered zero f = []
gathered (suc n) f = gathered n f ++ f n

-- A value for each number.
abbrev pub each : ℕ → (ℕ → ℕ) → List ℕ
each n f = gathered n (λ (i : ℕ). f i ∷ [])

-- The numbers that pass a test.
abbrev pub those : ℕ → (ℕ → Bool) → List ℕ
those n w = gathered n (λ (i : ℕ). pick (w i) (i ∷ []) [])

-- Words put over the start of a memory: what lies beyond them stays as it is.
abbrev pub over : List ℕ → List ℕ → List ℕ
over words old = words ++ drop (length words) old
