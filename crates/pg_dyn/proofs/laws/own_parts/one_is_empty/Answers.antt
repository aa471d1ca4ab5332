use Rattle.pg_dyn.proofs.PublicLaws as PublicLaws
use Rattle.pg_dyn.proofs.laws.own_parts.one_is_empty.Goals as goal

pub returns : goal.returns
returns c = PublicLaws.one_is_empty
