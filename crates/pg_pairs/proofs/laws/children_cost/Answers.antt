use Rattle.pg_pairs.proofs.lemmas.bounds.FieldAlone as FieldAlone
use Rattle.pg_pairs.proofs.laws.children_cost.Goals as goal

pub returns : goal.returns
returns c = FieldAlone.children_cost
