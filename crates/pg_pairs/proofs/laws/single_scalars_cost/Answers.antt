use Rattle.pg_pairs.proofs.lemmas.bounds.FieldAlone as FieldAlone
use Rattle.pg_pairs.proofs.laws.single_scalars_cost.Goals as goal

pub returns : goal.returns
returns c = FieldAlone.single_scalars_cost
