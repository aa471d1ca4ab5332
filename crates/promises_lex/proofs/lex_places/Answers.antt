use Rattle.std.proofs.Common.{rules}
use Rattle.promises_lex.proofs.lex_places.Goals as goal

pub returns-clause-rise : goal.returns-clause-rise
returns-clause-rise c = search rules

pub returns-clause-words : goal.returns-clause-words
returns-clause-words c = search rules
