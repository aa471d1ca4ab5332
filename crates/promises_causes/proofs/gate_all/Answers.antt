use Rattle.std.proofs.Common.{rules}
use Rattle.promises_causes.proofs.gate_all.Goals as goal

pub returns : goal.returns
returns c = search rules
