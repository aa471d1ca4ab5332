use Rattle.pg_dyn.proofs.PublicLaws as PublicLaws
use Rattle.pg_dyn.proofs.laws.fields.parts_keep_types.Goals as goal

pub returns : goal.returns
returns c = PublicLaws.parts_keep_types
