use Rattle.std.proofs.Common.{rules}
use Rattle.promises_syntax.proofs.parse.Goals as goal

pub returns-clause-tree : goal.returns-clause-tree
returns-clause-tree c = search rules

pub returns-clause-spelled : goal.returns-clause-spelled
returns-clause-spelled c = search rules
