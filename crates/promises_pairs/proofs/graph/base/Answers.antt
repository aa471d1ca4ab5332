use Rattle.std.proofs.Common.{rules}
use Rattle.promises_pairs.proofs.graph.base.Goals as goal

pub returns-clause-cost : goal.returns-clause-cost
returns-clause-cost c = search rules

pub returns-clause-counted : goal.returns-clause-counted
returns-clause-counted c = search rules

pub returns-clause-unchanged : goal.returns-clause-unchanged
returns-clause-unchanged c = search rules
