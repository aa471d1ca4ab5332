use Rattle.std.proofs.Common.{rules}
use Rattle.promises_syntax.proofs.joined.Goals as goal

pub returns : goal.returns
returns c = search rules
