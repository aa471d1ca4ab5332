use Rattle.pg_dyn.proofs.lemmas.laws.Examples as Examples
use Rattle.pg_dyn.proofs.laws.worked_examples.Goals as goal

pub returns : goal.returns
returns c = Examples.worked_examples
