-- Sets that are written.
use Rattle.std.specs.Prelude.{◌<◌, length}
use Rattle.pg_schema.specs.declared.parts.Parts.{Parts}
use Rattle.pg_dyn.specs.encoding.Encoding.{cap, enc}
use Rattle.pg_set.specs.descriptor.Descriptor.{descriptor_shape, file_set}
use Rattle.pg_set.specs.writing.Set.{set_message}

-- the set has more bytes than an encoding may have
abbrev pub HasNoSet : Parts → Type 0
HasNoSet parts = cap < length (enc descriptor_shape file_set (set_message parts))
