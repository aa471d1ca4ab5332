use Rattle.std.proofs.Common.{rules}
use Rattle.promises_set.proofs.error_of_failed.Goals as goal

pub returns : goal.returns
returns g c = search rules
