-- The entry type of a map field (Encoding guide, "Maps"; descriptor.proto, `map_entry`).
use Rattle.std.specs.Prelude.{ℕ, true, List, [], ◌∷◌, ◌++◌, flat_map, codes}
use Rattle.std.specs.String.{string_bytes}
use Rattle.pg_schema.specs.declared.parts.field.Element.{Element}
use Rattle.pg_schema.specs.declared.parts.field.Element.TheVariants as elements
use Rattle.pg_schema.specs.declared.parts.field.Field.{Field}
use Rattle.pg_schema.specs.declared.parts.field.Presence.{Presence}
use Rattle.pg_schema.specs.declared.parts.field.Presence.TheVariants as presences
use Rattle.pg_schema.specs.rules.DeclaredNames.{entry_name}
use Rattle.pg_set.specs.writing.Places.{Declared}
use Rattle.pg_set.specs.writing.Fields.{element_code, element_name}
use Rattle.pg_set.specs.writing.Items.{Items, text, maybe_text, count, flag, child, children}
use Rattle.pg_set.specs.declared.descriptor.proto.TheConstants as proto

-- `key` 1 and `value` 2: label OPTIONAL, and a JSON name
abbrev pub entry_field : Declared → (name : List ℕ) → (number : ℕ) → Element → Items
entry_field all name number element =
    text proto.FIELD_NAME name ++ count proto.FIELD_NUMBER number ++ count proto.FIELD_LABEL 1
    ++ count proto.FIELD_TYPE (element_code element) ++ maybe_text proto.FIELD_TYPE_NAME (element_name all element)
    ++ text proto.FIELD_JSON_NAME name

-- of a map field; other fields have none
abbrev pub entry_items : Declared → Field → List Items
entry_items all f = of f.presence
  where
    of : Presence → List Items
    of presences.Implicit = []
    of presences.Explicit = []
    of (presences.Repeated packed) = []
    of (presences.Map key) =
        (text proto.MESSAGE_NAME (entry_name (string_bytes f.name))
        ++ children proto.MESSAGE_FIELD (entry_field all (codes "key") 1 (elements.Scalar key) ∷ entry_field all (codes "value") 2 f.element ∷ [])
        ++ child proto.MESSAGE_OPTIONS (flag proto.MESSAGE_MAP_ENTRY true)) ∷ []

-- the entry types of fields, in their order
abbrev pub entries : Declared → List Field → List Items
entries all fields = flat_map (entry_items all) fields
