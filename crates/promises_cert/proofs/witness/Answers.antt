use Rattle.std.proofs.Common.{rules}
use Rattle.promises_cert.proofs.witness.Goals as goal

pub returns-clause-witness : goal.returns-clause-witness
returns-clause-witness c = search rules

pub returns-clause-bytes : goal.returns-clause-bytes
returns-clause-bytes c = search rules
