use Rattle.pg_set.proofs.lemmas.refusals.BadReferences.{bad_references}
use Rattle.pg_set.proofs.laws.bad_references.Goals as goal

pub returns : goal.returns
returns c = bad_references
