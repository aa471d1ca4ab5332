use Rattle.std.proofs.Common.{rules}
use Rattle.promises_link.proofs.errors.place_of_fault.Goals as goal

pub returns : goal.returns
returns c = search rules
