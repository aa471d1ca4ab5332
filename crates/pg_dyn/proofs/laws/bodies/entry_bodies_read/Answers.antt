use Rattle.pg_dyn.proofs.PublicLaws as PublicLaws
use Rattle.pg_dyn.proofs.laws.bodies.entry_bodies_read.Goals as goal

pub returns : goal.returns
returns c = PublicLaws.entry_bodies_read
