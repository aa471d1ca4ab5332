use Rattle.std.proofs.Common.{rules}
use Rattle.promises_schema.proofs.enum_type.Goals as goal

pub returns : goal.returns
returns c = search rules
