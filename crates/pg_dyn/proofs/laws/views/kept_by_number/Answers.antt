use Rattle.pg_dyn.proofs.lemmas.views.ViewNames as ViewNames
use Rattle.pg_dyn.proofs.laws.views.kept_by_number.Goals as goal

pub returns : goal.returns
returns c = ViewNames.kept_by_number
