use Rattle.pg_dyn.proofs.PublicLaws as PublicLaws
use Rattle.pg_dyn.proofs.laws.growing.encoding_grows.Goals as goal

pub returns : goal.returns
returns c = PublicLaws.encoding_grows
