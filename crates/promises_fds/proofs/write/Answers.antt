use Rattle.std.proofs.Common.{rules}
use Rattle.promises_fds.proofs.write.Goals as goal

pub returns-clause-ok : goal.returns-clause-ok
returns-clause-ok c = search rules

pub returns-clause-stated : goal.returns-clause-stated
returns-clause-stated c = search rules

pub returns-clause-shallow : goal.returns-clause-shallow
returns-clause-shallow c = search rules

pub returns-clause-err : goal.returns-clause-err
returns-clause-err c = search rules
