use Rattle.pg_pairs.proofs.lemmas.graph.EdgeCosts as EdgeCosts
use Rattle.pg_pairs.proofs.laws.least_costs_by_edges.Goals as goal

pub returns : goal.returns
returns c = EdgeCosts.least_costs_by_edges
