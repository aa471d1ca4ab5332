use Rattle.std.proofs.Common.{rules}
use Rattle.promises_lex.proofs.lex_refused.Goals as goal

pub returns : goal.returns
returns c = search rules
