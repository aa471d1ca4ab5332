use Rattle.pg_dyn.proofs.PublicLaws as PublicLaws
use Rattle.pg_dyn.proofs.laws.bodies.packed_bodies_read.Goals as goal

pub returns : goal.returns
returns c = PublicLaws.packed_bodies_read
