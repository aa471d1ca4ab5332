use Rattle.std.proofs.Common.{rules}
use Rattle.promises_fds.proofs.read_again.Goals as goal

pub returns-clause-stated : goal.returns-clause-stated
returns-clause-stated c = search rules

pub returns-clause-sound : goal.returns-clause-sound
returns-clause-sound c = search rules

pub returns-clause-same : goal.returns-clause-same
returns-clause-same c = search rules
