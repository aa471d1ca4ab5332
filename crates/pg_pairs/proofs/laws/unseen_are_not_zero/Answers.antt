use Rattle.pg_pairs.proofs.lemmas.gaps.ElementGaps as ElementGaps
use Rattle.pg_pairs.proofs.laws.unseen_are_not_zero.Goals as goal

pub returns : goal.returns
returns c = ElementGaps.unseen_are_not_zero
