use Rattle.std.proofs.Common.{rules}
use Rattle.promises_pairs.proofs.choice_child.Goals as goal

pub returns : goal.returns
returns c = search rules
