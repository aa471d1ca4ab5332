use Rattle.std.proofs.Common.{rules}
use Rattle.promises_cert.proofs.len.Goals as goal

pub returns-clause-len : goal.returns-clause-len
returns-clause-len c = search rules

pub returns-clause-checked : goal.returns-clause-checked
returns-clause-checked c = search rules
