use Rattle.pg_cert.proofs.OneText as Spelling
use Rattle.pg_cert.proofs.laws.one_text_in_each_version.Goals as goal

pub returns : goal.returns
returns c = Spelling.one_text_in_each_version
