use Rattle.pg_least.proofs.WithoutCauses as lemmas
use Rattle.pg_least.proofs.laws.compatible_without_causes.Goals as goal

pub returns : goal.returns
returns c = lemmas.compatible_without_causes c.cheapest_is_least.ensures c.least_costs_by_edges.ensures c.pairs_lead_to_pairs.ensures c.prices_are_near.ensures c.schemas_are_priced.ensures
