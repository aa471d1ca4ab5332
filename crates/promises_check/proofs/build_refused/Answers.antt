use Rattle.std.proofs.Common.{rules}
use Rattle.promises_check.proofs.build_refused.Goals as goal

pub returns : goal.returns
returns c = search rules
