use Rattle.std.proofs.Common.{rules}
use Rattle.promises_fds.proofs.read_refused.Goals as goal

pub returns-clause-refused : goal.returns-clause-refused
returns-clause-refused c = search rules

pub returns-clause-none_stated : goal.returns-clause-none_stated
returns-clause-none_stated c = search rules
