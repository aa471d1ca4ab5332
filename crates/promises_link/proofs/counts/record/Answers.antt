use Rattle.std.proofs.Common.{rules}
use Rattle.promises_link.proofs.counts.record.Goals as goal

pub returns : goal.returns
returns c = search rules
