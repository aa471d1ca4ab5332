use Rattle.pg_order.proofs.PublicLaws as PublicLaws
use Rattle.pg_order.proofs.laws.none_unseen_is_shorter.Goals as goal

pub returns : goal.returns
returns c = PublicLaws.none_unseen_is_shorter
