use Rattle.std.proofs.Common.{rules}
use Rattle.promises_set.proofs.descriptor_schema.Goals as goal

pub returns-clause-parts : goal.returns-clause-parts
returns-clause-parts c = search rules

pub returns-clause-shape : goal.returns-clause-shape
returns-clause-shape c = search rules
