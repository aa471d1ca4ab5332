use Rattle.std.proofs.Common.{rules}
use Rattle.promises_schema.proofs.field.Goals as goal

pub returns-clause-exact : goal.returns-clause-exact
returns-clause-exact c = search rules

pub returns-clause-shape : goal.returns-clause-shape
returns-clause-shape c = search rules
