use Rattle.pg_dyn.proofs.PublicLaws as PublicLaws
use Rattle.pg_dyn.proofs.laws.own_parts.own_parts_fit.Goals as goal

pub returns : goal.returns
returns c = PublicLaws.own_parts_fit
