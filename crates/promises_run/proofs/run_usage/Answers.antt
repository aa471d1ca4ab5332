use Rattle.std.proofs.Common.{rules}
use Rattle.promises_run.proofs.run_usage.Goals as goal

pub returns : goal.returns
returns c = search rules
