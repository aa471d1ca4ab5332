use Rattle.std.proofs.Common.{rules}
use Rattle.promises_run.proofs.run_failed.Goals as goal

pub returns-clause-begun : goal.returns-clause-begun
returns-clause-begun c = search rules

pub returns-clause-only : goal.returns-clause-only
returns-clause-only c = search rules

pub returns-clause-untouched : goal.returns-clause-untouched
returns-clause-untouched c = search rules

pub returns-clause-counted : goal.returns-clause-counted
returns-clause-counted c = search rules
