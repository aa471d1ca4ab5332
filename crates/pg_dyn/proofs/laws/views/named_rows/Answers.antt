use Rattle.pg_dyn.proofs.lemmas.views.ViewNames as ViewNames
use Rattle.pg_dyn.proofs.laws.views.named_rows.Goals as goal

pub returns : goal.returns
returns c = ViewNames.named_rows
