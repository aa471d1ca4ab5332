use Rattle.pg_link.proofs.lemmas.names.OnceLaws.{none_twice_is_once}
use Rattle.pg_link.proofs.laws.none_twice_is_once_per_name.Goals as goal

pub returns : goal.returns
returns c = none_twice_is_once
