use Rattle.std.proofs.Common.{rules}
use Rattle.promises_check.proofs.admit.Goals as goal

pub returns-clause-admitted : goal.returns-clause-admitted
returns-clause-admitted c = search rules

pub returns-clause-sound : goal.returns-clause-sound
returns-clause-sound c = search rules
