use Rattle.std.proofs.Common.{rules}
use Rattle.promises_wire.proofs.next.Goals as goal

pub returns : goal.returns
returns c = search rules
