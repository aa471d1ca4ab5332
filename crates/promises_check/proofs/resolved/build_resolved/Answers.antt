use Rattle.std.proofs.Common.{rules}
use Rattle.promises_check.proofs.resolved.build_resolved.Goals as goal

pub returns : goal.returns
returns c = search rules
