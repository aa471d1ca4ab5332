use Rattle.std.proofs.Common.{rules}
use Rattle.promises_link.proofs.linked.place.Goals as goal

pub returns-clause-place : goal.returns-clause-place
returns-clause-place c = search rules

pub returns-clause-absent : goal.returns-clause-absent
returns-clause-absent c = search rules
