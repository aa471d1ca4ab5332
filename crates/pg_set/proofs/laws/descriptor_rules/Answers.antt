use Rattle.pg_set.proofs.lemmas.descriptor.DescriptorSound.{descriptor_is_sound}
use Rattle.pg_set.proofs.laws.descriptor_rules.Goals as goal

pub returns : goal.returns
returns c = descriptor_is_sound
