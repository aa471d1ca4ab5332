use Rattle.pg_dyn.proofs.PublicLaws as PublicLaws
use Rattle.pg_dyn.proofs.laws.bodies.bodies_read_again.Goals as goal

pub returns : goal.returns
returns c = PublicLaws.bodies_read_again
