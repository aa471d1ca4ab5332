use Rattle.std.proofs.Common.{rules}
use Rattle.promises_schema.proofs.error_text.Goals as goal

pub returns : goal.returns
returns c = search rules
