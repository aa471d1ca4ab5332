use Rattle.pg_lex.proofs.Examples.{small_texts, each_escape, small_faults}
use Rattle.pg_lex.proofs.laws.small_texts.Goals as goal

pub returns-clause-tokens : goal.returns-clause-tokens
returns-clause-tokens c = small_texts

pub returns-clause-escapes : goal.returns-clause-escapes
returns-clause-escapes c = each_escape

pub returns-clause-faults : goal.returns-clause-faults
returns-clause-faults c = small_faults
