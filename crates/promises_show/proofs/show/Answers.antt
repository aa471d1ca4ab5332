use Rattle.std.proofs.Common.{rules}
use Rattle.promises_show.proofs.show.Goals as goal

pub returns-clause-text : goal.returns-clause-text
returns-clause-text c = search rules

pub returns-clause-within : goal.returns-clause-within
returns-clause-within c = search rules

pub returns-clause-refused : goal.returns-clause-refused
returns-clause-refused c = search rules

pub returns-clause-lacking : goal.returns-clause-lacking
returns-clause-lacking c = search rules
