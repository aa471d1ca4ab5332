use Rattle.std.proofs.Common.{rules}
use Rattle.promises_dyn.proofs.errors.at.Goals as goal

pub returns : goal.returns
returns c = search rules
