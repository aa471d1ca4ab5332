use Rattle.std.proofs.Common.{rules}
use Rattle.promises_gate.proofs.code.Goals as goal

pub returns : goal.returns
returns c = search rules
