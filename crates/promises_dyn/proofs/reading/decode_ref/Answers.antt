use Rattle.std.proofs.Common.{rules}
use Rattle.promises_dyn.proofs.reading.decode_ref.Goals as goal

pub returns-clause-message : goal.returns-clause-message
returns-clause-message c = search rules

pub returns-clause-fits : goal.returns-clause-fits
returns-clause-fits c = search rules

pub returns-clause-within : goal.returns-clause-within
returns-clause-within c = search rules

pub returns-clause-refused : goal.returns-clause-refused
returns-clause-refused c = search rules

pub returns-clause-lacking : goal.returns-clause-lacking
returns-clause-lacking c = search rules
