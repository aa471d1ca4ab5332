use Rattle.pg_dyn.proofs.PublicLaws as PublicLaws
use Rattle.pg_dyn.proofs.laws.kept_by_comparands.Goals as goal

pub returns : goal.returns
returns c = PublicLaws.kept_by_comparands
