use Rattle.std.proofs.Common.{rules}
use Rattle.promises_link.proofs.linked.resolve.Goals as goal

pub returns-clause-resolves : goal.returns-clause-resolves
returns-clause-resolves c = search rules

pub returns-clause-refused : goal.returns-clause-refused
returns-clause-refused c = search rules
