use Rattle.pg_check.proofs.lemmas.standing.StandingParts.{standing_parts}
use Rattle.pg_check.proofs.laws.linked_parts_stand.Goals as goal

pub returns : goal.returns
returns c linked parts up h = standing_parts linked parts up h
