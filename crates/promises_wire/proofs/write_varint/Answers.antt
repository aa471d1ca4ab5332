use Rattle.std.proofs.Common.{rules}
use Rattle.promises_wire.proofs.write_varint.Goals as goal

pub returns-clause-written : goal.returns-clause-written
returns-clause-written c = search rules

pub returns-clause-len : goal.returns-clause-len
returns-clause-len c = search rules

pub returns-clause-others : goal.returns-clause-others
returns-clause-others c = search rules
