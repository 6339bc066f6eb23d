-- `qhs::fields::word_at` meets its contract: what the check does not find alone.
use Rattle.qhs.proofs.FieldLaws.{word_fits}
use native.Mathlib.Omega.{arith}
use borrow.Author.Rules.{rules}
use Rattle.qhs.proofs.fields.word_at.Goals as goal

pub overflow_cast-result : goal.overflow_cast-result
overflow_cast-result c = omega (arith, word_fits _ _ (search rules) c.number_at.ensures.1)
