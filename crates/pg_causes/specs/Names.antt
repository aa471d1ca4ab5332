-- The names of the message types that two schemas declare.
use Rattle.std.specs.Prelude.{List, ℕ, Bool, not, map, filter, string_bytes}
use Rattle.std.specs.List.{list_any}
use Rattle.std.specs.Str.{bytes_eq}
use Rattle.pg_schema.specs.declared.parts.message_type.MessageType.{MessageType}
use Rattle.pg_schema.specs.declared.parts.Parts.{Parts}

-- the full name of a message type
abbrev pub name_of : MessageType → List ℕ
name_of type = string_bytes type.name

-- the full names of all message types that a schema declares, in order of declaration
abbrev pub declared_types : Parts → List (List ℕ)
declared_types parts = map name_of parts.types.items

-- a message type has the full name
abbrev pub is_declared : Parts → List ℕ → Bool
is_declared parts name = list_any (bytes_eq name) (declared_types parts)

-- the full names of the old message types that the new schema declares too, in the old order of declaration
abbrev pub shared : Parts → Parts → List (List ℕ)
shared old new = filter (is_declared new) (declared_types old)

-- the full names of the message types of one schema that the other doesn't declare, in order of declaration
abbrev pub only : Parts → Parts → List (List ℕ)
only one other = filter (λ name. not (is_declared other name)) (declared_types one)
