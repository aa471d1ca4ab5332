use Rattle.std.proofs.Common.{rules}
use Rattle.promises_dyn.proofs.borrowed.to_message.Goals as goal

pub returns : goal.returns
returns c = search rules
