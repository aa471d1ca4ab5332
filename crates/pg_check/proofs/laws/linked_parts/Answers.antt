use Rattle.pg_check.proofs.lemmas.parts.SoundParts.{linked_sound}
use Rattle.pg_check.proofs.laws.linked_parts.Goals as goal

pub returns : goal.returns
returns c linked parts up h = linked_sound linked parts up h
