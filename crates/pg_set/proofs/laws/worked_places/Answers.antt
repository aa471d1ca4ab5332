use Rattle.pg_set.proofs.lemmas.examples.PlaceExamples.{worked_places}
use Rattle.pg_set.proofs.laws.worked_places.Goals as goal

pub returns : goal.returns
returns c = worked_places
