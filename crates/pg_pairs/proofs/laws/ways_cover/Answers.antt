use Rattle.pg_pairs.proofs.lemmas.bounds.WaysCover as Cover
use Rattle.pg_pairs.proofs.laws.ways_cover.Goals as goal

pub returns : goal.returns
returns c = Cover.ways_cover
