use Rattle.pg_check.proofs.lemmas.admitting.BrokenParts.{kept_unbroken}
use Rattle.pg_check.proofs.laws.kept_part_rules.Goals as goal

pub returns : goal.returns
returns c parts e keep h = kept_unbroken parts e keep h
