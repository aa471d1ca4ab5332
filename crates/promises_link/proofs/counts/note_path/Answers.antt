use Rattle.std.proofs.Common.{rules}
use Rattle.promises_link.proofs.counts.note_path.Goals as goal

pub returns : goal.returns
returns c = search rules
