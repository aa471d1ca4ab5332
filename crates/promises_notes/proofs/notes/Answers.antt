use Rattle.std.proofs.Common.{rules}
use Rattle.promises_notes.proofs.notes.Goals as goal

pub returns : goal.returns
returns c = search rules
