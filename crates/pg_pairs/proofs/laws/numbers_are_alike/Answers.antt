use Rattle.pg_pairs.proofs.lemmas.views.NamedViews as NamedViews
use Rattle.pg_pairs.proofs.laws.numbers_are_alike.Goals as goal

pub returns : goal.returns
returns c = NamedViews.numbers_are_alike
