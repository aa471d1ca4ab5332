use Rattle.pg_pairs.proofs.lemmas.bounds.FieldAlone as FieldAlone
use Rattle.pg_pairs.proofs.laws.lists_cost.Goals as goal

pub returns : goal.returns
returns c = FieldAlone.lists_cost
