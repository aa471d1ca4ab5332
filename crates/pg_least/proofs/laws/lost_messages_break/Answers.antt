use Rattle.pg_least.proofs.PublicLaws as PublicLaws
use Rattle.pg_least.proofs.laws.lost_messages_break.Goals as goal

pub returns : goal.returns
returns c = PublicLaws.lost_messages_break
