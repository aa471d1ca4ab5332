use Rattle.std.proofs.Common.{rules}
use Rattle.promises_fds.proofs.read_level.Goals as goal

pub returns : goal.returns
returns c = search rules
