use Rattle.std.proofs.Common.{rules}
use Rattle.promises_pairs.proofs.breaks.Goals as goal

pub returns-clause-exact : goal.returns-clause-exact
returns-clause-exact c = search rules

pub returns-clause-encoded : goal.returns-clause-encoded
returns-clause-encoded c = search rules

pub returns-clause-refused : goal.returns-clause-refused
returns-clause-refused c = search rules
