-- What the loop of `batch::run` keeps from turn to turn.
use Rattle.steps.specs.Memory.{words_mut, SameLent}
use Rattle.batch.proofs.BatchLaws.{Going}
use Rattle.batch.proofs.run.Given as goal

abbrev pub invariant-loop-i : goal.invariant-loop-i
invariant-loop-i l =
    SameLent l.initial.lent l.lent
    × Going l.kinds l.processes l.cells l.values l.initial.answers (words_mut l.initial.lent) l.s l.fits l.n l.answers (words_mut l.lent) l.t l.i
