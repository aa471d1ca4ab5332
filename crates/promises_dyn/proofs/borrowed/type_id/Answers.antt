use Rattle.std.proofs.Common.{rules}
use Rattle.promises_dyn.proofs.borrowed.type_id.Goals as goal

pub returns : goal.returns
returns c = search rules
