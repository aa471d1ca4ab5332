use Rattle.pg_pairs.proofs.lemmas.graph.NearPrices as NearPrices
use Rattle.pg_pairs.proofs.laws.prices_are_near.Goals as goal

pub returns : goal.returns
returns c = NearPrices.prices_are_near
