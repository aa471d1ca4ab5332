use Rattle.std.proofs.Common.{rules}
use Rattle.promises_dyn.proofs.messages.is_plain.Goals as goal

pub returns : goal.returns
returns c = search rules
