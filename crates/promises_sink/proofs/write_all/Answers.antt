use Rattle.std.proofs.Common.{rules}
use Rattle.promises_sink.proofs.write_all.Goals as goal

pub returns-clause-whole : goal.returns-clause-whole
returns-clause-whole c = search rules

pub returns-clause-front : goal.returns-clause-front
returns-clause-front c = search rules

pub returns-clause-counted : goal.returns-clause-counted
returns-clause-counted c = search rules
