use Rattle.std.proofs.Common.{rules}
use Rattle.promises_pairs.proofs.graph.edge_cost.Goals as goal

pub returns-clause-cost : goal.returns-clause-cost
returns-clause-cost c = search rules

pub returns-clause-counted : goal.returns-clause-counted
returns-clause-counted c = search rules
