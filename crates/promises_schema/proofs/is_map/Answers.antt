use Rattle.std.proofs.Common.{rules}
use Rattle.promises_schema.proofs.is_map.Goals as goal

pub returns : goal.returns
returns c = search rules
