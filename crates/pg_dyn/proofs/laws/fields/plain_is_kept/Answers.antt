use Rattle.pg_dyn.proofs.PublicLaws as PublicLaws
use Rattle.pg_dyn.proofs.laws.fields.plain_is_kept.Goals as goal

pub returns : goal.returns
returns c = PublicLaws.plain_is_kept
