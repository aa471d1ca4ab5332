use Rattle.std.proofs.Common.{rules}
use Rattle.promises_sink.proofs.buffer_of.Goals as goal

pub returns-clause-taken : goal.returns-clause-taken
returns-clause-taken c = search rules

pub returns-clause-failures : goal.returns-clause-failures
returns-clause-failures c = search rules
