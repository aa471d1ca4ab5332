use Rattle.pg_check.proofs.lemmas.rules.BrokenFiles.{kept_unbroken}
use Rattle.pg_check.proofs.laws.kept_rules.Goals as goal

pub returns : goal.returns
returns c files e keep h = kept_unbroken files e keep h
