use Rattle.std.proofs.Common.{rules}
use Rattle.promises_pairs.proofs.causing.told_causes.Goals as goal

pub returns : goal.returns
returns c = search rules
