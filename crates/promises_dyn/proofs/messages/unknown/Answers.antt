use Rattle.std.proofs.Common.{rules}
use Rattle.promises_dyn.proofs.messages.unknown.Goals as goal

pub returns-clause-records : goal.returns-clause-records
returns-clause-records c = search rules

pub returns-clause-bodies : goal.returns-clause-bodies
returns-clause-bodies c = search rules
