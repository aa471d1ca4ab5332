use Rattle.std.proofs.Common.{rules}
use Rattle.promises_pairs.proofs.carry.Goals as goal

pub returns-clause-fits : goal.returns-clause-fits
returns-clause-fits c = search rules

pub returns-clause-type_is : goal.returns-clause-type_is
returns-clause-type_is c = search rules

pub returns-clause-reached : goal.returns-clause-reached
returns-clause-reached c = search rules

pub returns-clause-made : goal.returns-clause-made
returns-clause-made c = search rules
