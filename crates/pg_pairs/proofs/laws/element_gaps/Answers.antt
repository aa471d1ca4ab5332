use Rattle.pg_pairs.proofs.lemmas.gaps.ElementGaps as ElementGaps
use Rattle.pg_pairs.proofs.laws.element_gaps.Goals as goal

pub returns : goal.returns
returns c = ElementGaps.element_gaps
