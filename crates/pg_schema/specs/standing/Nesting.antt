-- How deep the message types of a schema are nested.
use Rattle.std.specs.Prelude.{ℕ, zero, suc, Bool, true, false, List, [], ◌∷◌, Option, Some, None, slice_get}
use Rattle.std.specs.List.{list_all}
use Rattle.pg_schema.specs.declared.parts.field.TypeId.{TypeId}
use Rattle.pg_schema.specs.declared.parts.file.File.{File}
use Rattle.pg_schema.specs.declared.parts.message_type.MessageType.{MessageType}
use Rattle.pg_schema.specs.declared.parts.Parts.{Parts}

abbrev pub holds_inside : (List TypeId → Bool) → Option MessageType → Bool
holds_inside inside None = true
holds_inside inside (Some t) = inside t.nested_types.items

-- the message types at these indexes are nested at most so deep
abbrev pub nest_within : (depth : ℕ) → List MessageType → List TypeId → Bool
nest_within zero types [] = true
nest_within zero types (id ∷ ids) = false
nest_within (suc depth) types ids =
    list_all (λ (id : TypeId). holds_inside (nest_within depth types) (slice_get types id.index)) ids

-- message types are nested at most 64 deep, as deep as source files may nest them
abbrev pub are_shallow : Parts → Bool
are_shallow parts = list_all (λ (f : File). nest_within 64 parts.types.items f.types.items) parts.files.items
