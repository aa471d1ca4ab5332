use Rattle.std.proofs.Common.{rules}
use Rattle.promises_link.proofs.linked.enum_names.Goals as goal

pub returns : goal.returns
returns c = search rules
