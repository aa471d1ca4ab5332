use Rattle.std.proofs.Common.{rules}
use Rattle.promises_schema.proofs.entry_name.Goals as goal

pub returns : goal.returns
returns c = search rules
