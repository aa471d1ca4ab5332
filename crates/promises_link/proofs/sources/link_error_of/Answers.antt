use Rattle.std.proofs.Common.{rules}
use Rattle.promises_link.proofs.sources.link_error_of.Goals as goal

pub returns : goal.returns
returns c = search rules
