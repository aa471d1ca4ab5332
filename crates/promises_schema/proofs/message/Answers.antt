use Rattle.std.proofs.Common.{rules}
use Rattle.promises_schema.proofs.message.Goals as goal

pub returns : goal.returns
returns c = search rules
