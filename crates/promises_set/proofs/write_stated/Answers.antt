use Rattle.std.proofs.Common.{rules}
use Rattle.promises_set.proofs.write_stated.Goals as goal

pub returns : goal.returns
returns c = search rules
