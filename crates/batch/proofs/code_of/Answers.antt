-- `batch::code_of` meets its contract: what the check does not find alone.
use Rattle.batch.proofs.WordLaws.{code_refused}
use Rattle.batch.proofs.code_of.Goals as goal

pub returns-in-Err-clause-back : goal.returns-in-Err-clause-back
returns-in-Err-clause-back c = search (code_refused)
