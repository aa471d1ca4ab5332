use Rattle.pg_least.proofs.PublicLaws as PublicLaws
use Rattle.pg_least.proofs.laws.compatible_is_seen.Goals as goal

pub returns : goal.returns
returns c = PublicLaws.compatible_is_seen
