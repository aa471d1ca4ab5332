use Rattle.pg_dyn.proofs.PublicLaws as PublicLaws
use Rattle.pg_dyn.proofs.laws.fields.last_items.Goals as goal

pub returns : goal.returns
returns c = PublicLaws.last_items
