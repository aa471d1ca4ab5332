use Rattle.pg_order.proofs.PublicLaws as PublicLaws
use Rattle.pg_order.proofs.laws.encoding_may_be_written.Goals as goal

pub returns : goal.returns
returns c = PublicLaws.encoding_may_be_written
