use Rattle.std.proofs.Common.{rules}
use Rattle.promises_cert.proofs.certificate.Goals as goal

pub returns-clause-claim : goal.returns-clause-claim
returns-clause-claim c = search rules

pub returns-clause-back : goal.returns-clause-back
returns-clause-back c = search rules

pub returns-clause-empty : goal.returns-clause-empty
returns-clause-empty c = search rules
