use Rattle.pg_set.proofs.lemmas.descriptor.SameSound.{sound_same}
use Rattle.pg_set.proofs.laws.alike_are_sound.Goals as goal

pub returns : goal.returns
returns c = sound_same
