use Rattle.std.proofs.Common.{rules}
use Rattle.promises_link.proofs.linked.targets.Goals as goal

pub returns-clause-targets : goal.returns-clause-targets
returns-clause-targets c = search rules

pub returns-clause-resolved : goal.returns-clause-resolved
returns-clause-resolved c = search rules
