use Rattle.std.proofs.Common.{rules}
use Rattle.promises_fds.proofs.error_of_set.Goals as goal

pub returns : goal.returns
returns c = search rules
