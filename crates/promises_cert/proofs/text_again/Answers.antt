use Rattle.std.proofs.Common.{rules}
use Rattle.promises_cert.proofs.text_again.Goals as goal

pub returns-clause-text : goal.returns-clause-text
returns-clause-text c = search rules

pub returns-clause-refused : goal.returns-clause-refused
returns-clause-refused c = search rules
