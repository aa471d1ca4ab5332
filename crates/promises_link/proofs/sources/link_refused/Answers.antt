use Rattle.std.proofs.Common.{rules}
use Rattle.promises_link.proofs.sources.link_refused.Goals as goal

pub returns : goal.returns
returns g c = search rules
