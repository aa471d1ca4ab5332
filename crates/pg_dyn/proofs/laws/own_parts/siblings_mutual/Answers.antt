use Rattle.pg_dyn.proofs.PublicLaws as PublicLaws
use Rattle.pg_dyn.proofs.laws.own_parts.siblings_mutual.Goals as goal

pub returns : goal.returns
returns c = PublicLaws.siblings_mutual
