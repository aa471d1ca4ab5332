use Rattle.std.proofs.Common.{rules}
use Rattle.promises_least.proofs.find_with.Goals as goal

pub returns-clause-searched : goal.returns-clause-searched
returns-clause-searched c = search rules

pub returns-clause-witness : goal.returns-clause-witness
returns-clause-witness c = search rules

pub returns-clause-named : goal.returns-clause-named
returns-clause-named c = search rules
