use Rattle.pg_pairs.proofs.lemmas.views.NamedViews.{seen_under_is}
use Rattle.pg_pairs.proofs.laws.sees.Goals as goal

pub returns : goal.returns
returns c = seen_under_is c.args._graph.now.view c.args._graph.now.old.now c.args._graph.now.new.now
