use Rattle.std.proofs.Common.{rules}
use Rattle.promises_link.proofs.sources.place_in.Goals as goal

pub returns : goal.returns
returns c = search rules
