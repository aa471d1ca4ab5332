use Rattle.pg_pairs.proofs.lemmas.choices.Cheaper as Cheaper
use Rattle.pg_pairs.proofs.laws.cheapest_is_least.Goals as goal

pub returns : goal.returns
returns c = Cheaper.cheapest_is_least
