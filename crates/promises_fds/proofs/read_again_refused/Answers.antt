use Rattle.std.proofs.Common.{rules}
use Rattle.promises_fds.proofs.read_again_refused.Goals as goal

pub returns-clause-refused : goal.returns-clause-refused
returns-clause-refused c = search rules

pub returns-clause-reported : goal.returns-clause-reported
returns-clause-reported c = search rules
