use Rattle.pg_dyn.proofs.PublicLaws as PublicLaws
use Rattle.pg_dyn.proofs.laws.bodies.single_bodies_read.Goals as goal

pub returns : goal.returns
returns c = PublicLaws.single_bodies_read
