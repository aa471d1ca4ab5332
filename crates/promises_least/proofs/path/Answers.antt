use Rattle.std.proofs.Common.{rules}
use Rattle.promises_least.proofs.path.Goals as goal

pub returns : goal.returns
returns c = search rules
