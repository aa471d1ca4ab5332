use Rattle.pg_check.proofs.lemmas.admitting.SoundParts.{sound_keep}
use Rattle.pg_check.proofs.laws.sound_parts_keep.Goals as goal

pub returns : goal.returns
returns c parts sound fit = sound_keep parts sound fit
