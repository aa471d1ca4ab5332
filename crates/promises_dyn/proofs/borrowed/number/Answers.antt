use Rattle.std.proofs.Common.{rules}
use Rattle.promises_dyn.proofs.borrowed.number.Goals as goal

pub returns-clause-item : goal.returns-clause-item
returns-clause-item c = search rules
