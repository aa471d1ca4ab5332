use Rattle.std.proofs.Common.{rules}
use Rattle.promises_pairs.proofs.graph.reached_pairs.Goals as goal

pub returns-clause-in_order : goal.returns-clause-in_order
returns-clause-in_order g c = search rules

pub returns-clause-once : goal.returns-clause-once
returns-clause-once g c = search rules

pub returns-clause-closed : goal.returns-clause-closed
returns-clause-closed g c = search rules

pub returns-clause-known : goal.returns-clause-known
returns-clause-known g c = search rules
