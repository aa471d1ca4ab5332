use Rattle.std.proofs.Common.{rules}
use Rattle.promises_schema.proofs.parts.Goals as goal

pub returns-clause-parts : goal.returns-clause-parts
returns-clause-parts c = search rules

pub returns-clause-checked : goal.returns-clause-checked
returns-clause-checked c = search rules
