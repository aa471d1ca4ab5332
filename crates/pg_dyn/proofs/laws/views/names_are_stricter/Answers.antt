use Rattle.pg_dyn.proofs.lemmas.views.ViewNames as ViewNames
use Rattle.pg_dyn.proofs.laws.views.names_are_stricter.Goals as goal

pub returns : goal.returns
returns c = ViewNames.names_are_stricter
