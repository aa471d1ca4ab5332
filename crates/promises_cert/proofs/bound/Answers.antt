use Rattle.std.proofs.Common.{rules}
use Rattle.promises_cert.proofs.bound.Goals as goal

pub returns : goal.returns
returns c = search rules
