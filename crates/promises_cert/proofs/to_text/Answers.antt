use Rattle.std.proofs.Common.{rules}
use Rattle.promises_cert.proofs.to_text.Goals as goal

pub returns-clause-certifies : goal.returns-clause-certifies
returns-clause-certifies c = search rules

pub returns-clause-second : goal.returns-clause-second
returns-clause-second c = search rules
