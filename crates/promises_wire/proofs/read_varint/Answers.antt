use Rattle.std.proofs.Common.{rules}
use Rattle.promises_wire.proofs.read_varint.Goals as goal

pub returns-clause-value : goal.returns-clause-value
returns-clause-value c = search rules

pub returns-clause-inside : goal.returns-clause-inside
returns-clause-inside c = search rules
