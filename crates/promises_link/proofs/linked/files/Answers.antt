use Rattle.std.proofs.Common.{rules}
use Rattle.promises_link.proofs.linked.files.Goals as goal

pub returns-clause-files : goal.returns-clause-files
returns-clause-files c = search rules

pub returns-clause-linked : goal.returns-clause-linked
returns-clause-linked c = search rules
