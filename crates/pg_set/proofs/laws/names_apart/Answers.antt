use Rattle.pg_set.proofs.lemmas.outline.NamesApart.{names_apart}
use Rattle.pg_set.proofs.laws.names_apart.Goals as goal

pub returns : goal.returns
returns c = names_apart
