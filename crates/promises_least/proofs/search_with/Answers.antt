use Rattle.std.proofs.Common.{rules}
use Rattle.promises_least.proofs.search_with.Goals as goal

pub returns-clause-searched : goal.returns-clause-searched
returns-clause-searched c = search rules

pub returns-clause-named : goal.returns-clause-named
returns-clause-named c = search rules
