use Rattle.pg_dyn.proofs.PublicLaws as PublicLaws
use Rattle.pg_dyn.proofs.laws.fields.equal_leaves.Goals as goal

pub returns : goal.returns
returns c = PublicLaws.equal_leaves
