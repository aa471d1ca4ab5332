use Rattle.pg_least.proofs.PublicLaws as PublicLaws
use Rattle.pg_least.proofs.laws.named_types_are_there.Goals as goal

pub returns : goal.returns
returns c = PublicLaws.named_types_are_there
