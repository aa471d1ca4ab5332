use Rattle.std.proofs.Common.{rules}
use Rattle.promises_run.proofs.run_unanswered.Goals as goal

pub returns-clause-uncalled : goal.returns-clause-uncalled
returns-clause-uncalled c = search rules

pub returns-clause-lacking : goal.returns-clause-lacking
returns-clause-lacking g c = c.run.ensures.lacking
