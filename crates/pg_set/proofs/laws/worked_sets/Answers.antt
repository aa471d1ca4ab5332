use Rattle.pg_set.proofs.lemmas.examples.Examples as Examples
use Rattle.pg_set.proofs.laws.worked_sets.Goals as goal

pub returns : goal.returns
returns c = record { one_field = Examples.one_field; map_and_optional = Examples.map_and_optional }
