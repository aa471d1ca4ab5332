use Rattle.pg_order.proofs.PublicLaws as PublicLaws
use Rattle.pg_order.proofs.laws.compatible_in_any_order.Goals as goal

pub returns : goal.returns
returns c = PublicLaws.compatible_in_any_order
