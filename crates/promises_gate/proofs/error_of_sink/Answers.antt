use Rattle.std.proofs.Common.{rules}
use Rattle.promises_gate.proofs.error_of_sink.Goals as goal

pub returns : goal.returns
returns c = search rules
