use Rattle.std.proofs.Common.{rules}
use Rattle.promises_link.proofs.counts.path_record.Goals as goal

pub returns : goal.returns
returns c = search rules
