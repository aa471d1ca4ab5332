use Rattle.std.proofs.Common.{rules}
use Rattle.promises_pairs.proofs.names.least_by_name.Goals as goal

pub returns : goal.returns
returns c = search rules
