use Rattle.std.proofs.Common.{rules}
use Rattle.promises_dyn.proofs.messages.set.Goals as goal

pub returns-clause-ok : goal.returns-clause-ok
returns-clause-ok c = search rules

pub returns-clause-fits : goal.returns-clause-fits
returns-clause-fits c = search rules

pub returns-clause-content : goal.returns-clause-content
returns-clause-content c = search rules

pub returns-clause-refused : goal.returns-clause-refused
returns-clause-refused c = search rules

pub returns-clause-lacking : goal.returns-clause-lacking
returns-clause-lacking c = search rules
