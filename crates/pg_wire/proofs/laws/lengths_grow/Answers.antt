use Rattle.pg_wire.proofs.PublicLaws as PublicLaws
use Rattle.pg_wire.proofs.laws.lengths_grow.Goals as goal

pub returns : goal.returns
returns c = PublicLaws.lengths_grow
