-- What the loop of `qhs::fields::number_at` keeps from turn to turn.
use Rattle.qhs.proofs.FieldLaws.{Gathered}
use Rattle.qhs.proofs.fields.number_at.Given as goal

abbrev pub invariant-loop-i : goal.invariant-loop-i
invariant-loop-i l = Gathered l.bytes l.at l.width l.n l.i
