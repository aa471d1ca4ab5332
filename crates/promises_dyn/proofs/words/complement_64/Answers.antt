use Rattle.std.proofs.Common.{rules}
use Rattle.promises_dyn.proofs.words.complement_64.Goals as goal

pub returns : goal.returns
returns c = search rules
