use Rattle.pg_dyn.proofs.PublicLaws as PublicLaws
use Rattle.pg_dyn.proofs.laws.fields.own_contents.Goals as goal

pub returns : goal.returns
returns c = PublicLaws.own_contents
