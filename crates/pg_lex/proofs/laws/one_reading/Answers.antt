use Rattle.pg_lex.proofs.TextLaws.{one_row}
use Rattle.pg_lex.proofs.laws.one_reading.Goals as goal

pub returns : goal.returns
returns c = one_row
