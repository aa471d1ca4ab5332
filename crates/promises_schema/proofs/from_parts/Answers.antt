use Rattle.std.proofs.Common.{rules}
use Rattle.promises_schema.proofs.from_parts.Goals as goal

pub returns-clause-schema : goal.returns-clause-schema
returns-clause-schema c = search rules

pub returns-clause-checked : goal.returns-clause-checked
returns-clause-checked c = search rules
