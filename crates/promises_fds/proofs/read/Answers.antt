use Rattle.std.proofs.Common.{rules}
use Rattle.promises_fds.proofs.read.Goals as goal

pub returns-clause-stated : goal.returns-clause-stated
returns-clause-stated c = search rules

pub returns-clause-readable : goal.returns-clause-readable
returns-clause-readable c = search rules
