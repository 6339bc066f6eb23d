-- The word of an answer says it.
-- Assumes nothing.
use Rattle.std.specs.Prelude.{Ok, Err}
use Prim.Native.Nat.{ℕ, ◌<◌}
use mathlib.Core.Path.{◌≡◌, ap, ◌∙◌}
use mathlib.Core.Bool.{Bool}
use native.Mathlib.Omega.{arith}
use Rattle.refusals.specs.Numbers.{number_of}
use Rattle.refusals.specs.declared.Refusal.{Refusal}
use Rattle.acts.specs.declared.Answer.{Answer}
use Rattle.batch.specs.Batch.{code_with, bit, count_of, code_of, answer_of}
use Rattle.batch.specs.Words.{steps_of, answer_back}
use Rattle.acts.specs.Calls.{Response}

module _ (a : Answer) (c : ℕ) where
  back : steps_of (Ok a) < 256 → c ≡ code_of (Ok a) → answer_of c ≡ Ok a
  back h e = ap answer_of e ∙ answer_back (Ok a) h

  pub code_begun : a ≡ Answer.Begun → c ≡ code_with 0 0 0 → answer_of c ≡ Ok a
  code_begun e h = back (rw e (omega arith)) (rw e h)

  pub code_going : a ≡ Answer.Going → c ≡ code_with 1 0 0 → answer_of c ≡ Ok a
  code_going e h = back (rw e (omega arith)) (rw e h)

  pub code_read : (v n k : ℕ) (b : Bool) → n < 256 → a ≡ Answer.Read v b n → k ≡ count_of b n → c ≡ code_with 2 k v → answer_of c ≡ Ok a
  code_read v n k b low e f h = back (rw e low) (rw e (h ∙ rw f))

  pub code_written : (n : ℕ) → n < 256 → a ≡ Answer.Written n → c ≡ code_with 3 n 0 → answer_of c ≡ Ok a
  code_written n low e h = back (rw e low) (rw e h)

  pub code_asked : (b : Bool) (n v : ℕ) → n < 256 → a ≡ Answer.Asked b n → v ≡ bit b → c ≡ code_with 4 n v → answer_of c ≡ Ok a
  code_asked b n v low e f h = back (rw e low) (rw e (h ∙ rw f))

pub code_refused : (a : Response) (c : ℕ) (r : Refusal) (n : ℕ) → a ≡ Err r → n ≡ number_of r → c ≡ code_with 5 n 0 → answer_of c ≡ a
code_refused a c r n e f h = rw e (ap answer_of (h ∙ rw f) ∙ answer_back (Err r) (omega arith))
