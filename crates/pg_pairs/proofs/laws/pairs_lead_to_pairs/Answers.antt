use Rattle.pg_pairs.proofs.PublicLaws as PublicLaws
use Rattle.pg_pairs.proofs.laws.pairs_lead_to_pairs.Goals as goal

pub returns : goal.returns
returns c = PublicLaws.pairs_lead_to_pairs
