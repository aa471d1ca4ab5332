use Rattle.pg_order.proofs.PublicLaws as PublicLaws
use Rattle.pg_order.proofs.laws.one_length.Goals as goal

pub returns : goal.returns
returns c = PublicLaws.one_length
