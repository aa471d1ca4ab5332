use Rattle.pg_dyn.proofs.PublicLaws as PublicLaws
use Rattle.pg_dyn.proofs.laws.fields.unknown_is_kept.Goals as goal

pub returns : goal.returns
returns c = PublicLaws.unknown_is_kept
