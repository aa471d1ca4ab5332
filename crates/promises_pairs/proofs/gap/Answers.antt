use Rattle.std.proofs.Common.{rules}
use Rattle.promises_pairs.proofs.gap.Goals as goal

pub returns-clause-table : goal.returns-clause-table
returns-clause-table c = search rules

pub returns-clause-exact : goal.returns-clause-exact
returns-clause-exact c = search rules
