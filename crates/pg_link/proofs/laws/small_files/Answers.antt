use Rattle.pg_link.proofs.lemmas.SmallFiles as files
use Rattle.pg_link.proofs.laws.small_files.Goals as goal

pub returns : goal.returns
returns c = files.small_files
