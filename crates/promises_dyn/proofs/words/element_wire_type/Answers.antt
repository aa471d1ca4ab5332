use Rattle.std.proofs.Common.{rules}
use Rattle.promises_dyn.proofs.words.element_wire_type.Goals as goal

pub returns : goal.returns
returns c = search rules
