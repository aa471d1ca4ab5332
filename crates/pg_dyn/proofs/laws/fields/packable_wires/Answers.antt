use Rattle.pg_dyn.proofs.PublicLaws as PublicLaws
use Rattle.pg_dyn.proofs.laws.fields.packable_wires.Goals as goal

pub returns : goal.returns
returns c = PublicLaws.packable_wires
