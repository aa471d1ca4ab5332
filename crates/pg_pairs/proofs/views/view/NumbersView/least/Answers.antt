use Rattle.pg_pairs.proofs.lemmas.views.NamedViews.{none_differs}
use Rattle.pg_pairs.proofs.views.view.NumbersView.least.Goals as goal

pub returns-clause-shortest : goal.returns-clause-shortest
returns-clause-shortest c = none_differs c.args._zero
