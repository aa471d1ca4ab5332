use Rattle.pg_dyn.proofs.PublicLaws as PublicLaws
use Rattle.pg_dyn.proofs.laws.fields.contents_are_seen.Goals as goal

pub returns : goal.returns
returns c = PublicLaws.contents_are_seen
