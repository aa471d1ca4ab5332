use Rattle.pg_dyn.proofs.PublicLaws as PublicLaws
use Rattle.pg_dyn.proofs.laws.fields.fields_are_found.Goals as goal

pub returns : goal.returns
returns c = PublicLaws.fields_are_found
