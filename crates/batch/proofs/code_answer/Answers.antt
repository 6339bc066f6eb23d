-- `batch::code_answer` meets its contract: what the check does not find alone.
use Rattle.batch.proofs.WordLaws.{code_begun, code_going, code_read, code_written, code_asked}
use Rattle.batch.proofs.code_answer.Goals as goal

pub returns-in-Begun-clause-back : goal.returns-in-Begun-clause-back
returns-in-Begun-clause-back c = search (code_begun)

pub returns-in-Going-clause-back : goal.returns-in-Going-clause-back
returns-in-Going-clause-back c = search (code_going)

pub returns-in-Read-clause-back : goal.returns-in-Read-clause-back
returns-in-Read-clause-back c = search (code_read)

pub returns-in-Written-clause-back : goal.returns-in-Written-clause-back
returns-in-Written-clause-back c = search (code_written)

pub returns-in-Asked-clause-back : goal.returns-in-Asked-clause-back
returns-in-Asked-clause-back c = search (code_asked)
