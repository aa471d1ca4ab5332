use Rattle.pg_pairs.proofs.lemmas.bounds.LeastCosts as LeastCosts
use Rattle.pg_pairs.proofs.laws.least_costs_are_exact.Goals as goal

pub returns : goal.returns
returns c = LeastCosts.least_costs_are_exact
