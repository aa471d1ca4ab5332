use Rattle.std.proofs.Common.{rules}
use Rattle.promises_set.proofs.read_parts_same.Goals as goal

pub returns : goal.returns
returns c = search rules
