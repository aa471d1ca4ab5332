use Rattle.std.proofs.Common.{rules}
use Rattle.promises_cert.proofs.from_text.Goals as goal

pub returns-clause-certifies : goal.returns-clause-certifies
returns-clause-certifies c = search rules

pub returns-clause-alone : goal.returns-clause-alone
returns-clause-alone c = search rules

pub returns-clause-refused : goal.returns-clause-refused
returns-clause-refused c = search rules
