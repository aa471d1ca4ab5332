use Rattle.std.proofs.Common.{rules}
use Rattle.promises_schema.proofs.message_type.Goals as goal

pub returns-clause-exact : goal.returns-clause-exact
returns-clause-exact c = search rules

pub returns-clause-fields : goal.returns-clause-fields
returns-clause-fields c = search rules
