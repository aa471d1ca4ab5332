use Rattle.pg_pairs.proofs.lemmas.graph.NearPrices as NearPrices
use Rattle.pg_pairs.proofs.laws.causes_are_own.Goals as goal

pub returns : goal.returns
returns c = NearPrices.causes_are_own
