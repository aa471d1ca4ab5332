use Rattle.std.proofs.Common.{rules}
use Rattle.promises_pairs.proofs.breaks_as_written.Goals as goal

pub returns : goal.returns
returns c = search rules
