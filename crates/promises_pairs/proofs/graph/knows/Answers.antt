use Rattle.std.proofs.Common.{rules}
use Rattle.promises_pairs.proofs.graph.knows.Goals as goal

pub returns : goal.returns
returns c = search rules
