use Rattle.std.proofs.Common.{rules}
use Rattle.promises_least.proofs.several.bounds_from.Goals as goal

pub returns-clause-bounds : goal.returns-clause-bounds
returns-clause-bounds c = search rules

pub returns-clause-counted : goal.returns-clause-counted
returns-clause-counted c = search rules
