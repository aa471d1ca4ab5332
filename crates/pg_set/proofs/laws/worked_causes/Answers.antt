use Rattle.pg_set.proofs.lemmas.examples.CauseExamples.{worked_causes}
use Rattle.pg_set.proofs.laws.worked_causes.Goals as goal

pub returns : goal.returns
returns c = worked_causes
