use Rattle.std.proofs.Common.{rules}
use Rattle.promises_cert.proofs.root.Goals as goal

pub returns-clause-root : goal.returns-clause-root
returns-clause-root c = search rules

pub returns-clause-checked : goal.returns-clause-checked
returns-clause-checked c = search rules

pub returns-clause-witnessed : goal.returns-clause-witnessed
returns-clause-witnessed c = search rules
