use Rattle.pg_cert.proofs.OneSpelling as Spelling
use Rattle.pg_cert.proofs.laws.one_spelling.Goals as goal

pub returns : goal.returns
returns c = Spelling.one_spelling
