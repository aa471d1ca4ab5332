use Rattle.std.proofs.Common.{rules}
use Rattle.promises_dyn.proofs.borrowed.get.Goals as goal

pub returns-clause-content : goal.returns-clause-content
returns-clause-content c = search rules

pub returns-clause-filled : goal.returns-clause-filled
returns-clause-filled c = search rules

pub returns-clause-keys : goal.returns-clause-keys
returns-clause-keys c = search rules

pub returns-clause-fits : goal.returns-clause-fits
returns-clause-fits c = search rules
