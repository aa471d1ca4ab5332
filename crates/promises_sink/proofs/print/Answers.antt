use Rattle.std.proofs.Common.{rules}
use Rattle.promises_sink.proofs.print.Goals as goal

pub returns-clause-within : goal.returns-clause-within
returns-clause-within c = search rules

pub returns-clause-some : goal.returns-clause-some
returns-clause-some c = search rules

pub returns-clause-took : goal.returns-clause-took
returns-clause-took c = search rules

pub returns-clause-counted : goal.returns-clause-counted
returns-clause-counted c = search rules
