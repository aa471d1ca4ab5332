use Rattle.pg_dyn.proofs.PublicLaws as PublicLaws
use Rattle.pg_dyn.proofs.laws.fields.records_of_fields.Goals as goal

pub returns : goal.returns
returns c = PublicLaws.records_of_fields
