use Rattle.pg_check.specs.admitting.PartErrors.{lacking}
use Rattle.pg_check.proofs.admitting.admit.Goals as goal

pub returns-in-Err-Memory-default-clause-refused : goal.returns-in-Err-Memory-default-clause-refused
returns-in-Err-Memory-default-clause-refused c = lacking
