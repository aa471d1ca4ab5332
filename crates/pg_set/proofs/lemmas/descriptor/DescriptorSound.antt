-- The schema of descriptor.proto keeps to the rules: each is a computation over what is written down.
use Rattle.std.proofs.Common.{sym, subst, rules}
use Rattle.pg_set.specs.descriptor.DescriptorLaw.{DescriptorIsSound}
use Rattle.pg_set.specs.descriptor.DescriptorParts.{descriptor_parts}
use Rattle.pg_set.proofs.lemmas.descriptor.DescriptorOpened.{opened}
use Rattle.pg_set.proofs.lemmas.descriptor.SameSound.{KeepsRules, sound_by_view}

keeps_rules : KeepsRules descriptor_parts
unfolding opened
keeps_rules = search rules

pub descriptor_is_sound : DescriptorIsSound
descriptor_is_sound p same = sound_by_view p (subst KeepsRules (sym same) keeps_rules)
