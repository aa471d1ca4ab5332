-- The schema of descriptor.proto keeps to the rules of a schema.
use Rattle.std.specs.Prelude.{◌≡◌}
use Rattle.pg_schema.specs.declared.parts.Parts.{Parts}
use Rattle.pg_schema.specs.rules.Sound.{IsSound}
use Rattle.pg_set.specs.descriptor.DescriptorParts.{descriptor_parts}
use Rattle.pg_set.specs.stated.Views.{parts_view}

-- so do all parts that say what is written down
abbrev pub DescriptorIsSound : Type 0
DescriptorIsSound = (parts : Parts) → parts_view parts ≡ descriptor_parts → IsSound parts
