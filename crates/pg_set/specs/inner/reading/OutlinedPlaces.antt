-- What an outline keeps of message types and files, by their indices.
use Rattle.std.specs.Prelude.{length, List, [], ◌∷◌}
use Rattle.pg_schema.specs.rules.Scopes.{enum_places, type_places, service_places}
use Rattle.pg_set.specs.declared.reading.outline.Outline.{Outline}
use Rattle.pg_set.specs.stated.Numbering.{Counts, PlacedType, PlacedFile}
use Rattle.pg_dyn.specs.message.Message.{Message}
use Rattle.pg_set.specs.declared.reading.outline.OutlinedType.{OutlinedType}
use Rattle.pg_set.specs.inner.reading.OutlinedRows.{type_row}
use Rattle.pg_set.specs.stated.Outlines.{Row}
use Rattle.pg_dyn.specs.message.Kept.{message_of}
use Rattle.pg_set.specs.declared.reading.outline.OutlinedFile.{OutlinedFile}

abbrev pub counts_of : Outline → Counts
counts_of o = record { types = length o.types.items; enums = length o.enums.items; services = length o.services.items }

abbrev pub counts_behind : (on : Counts → Message → Counts) → Counts → List Message → Counts
counts_behind on counts [] = counts
counts_behind on counts (m ∷ ms) = counts_behind on (on counts m) ms

abbrev pub placed_type : OutlinedType → PlacedType
placed_type o = record { named = type_row o; types = type_places o.types.items; enums = enum_places o.enums.items }

-- a message type of which nothing inside is known yet
abbrev pub without_inside : Row → PlacedType
without_inside named = record { named = named; types = []; enums = [] }

abbrev pub placed_file : OutlinedFile → PlacedFile
placed_file o = record {
  message = message_of o.message;
  types = type_places o.types.items;
  enums = enum_places o.enums.items;
  services = service_places o.services.items;
}
