use Rattle.std.proofs.Common.{rules}
use Rattle.promises_lex.proofs.lex_short.Goals as goal

pub returns : goal.returns
returns c = search rules
