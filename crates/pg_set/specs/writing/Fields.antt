-- A field's message, `FieldDescriptorProto` of descriptor.proto.
use Rattle.std.specs.Prelude.{ℕ, suc, List, [], ◌∷◌, ◌++◌, Option, Some, None, option_map, if◌then◌else◌}
use Rattle.std.specs.String.{string_bytes}
use Rattle.pg_schema.specs.declared.parts.field.Element.{Element}
use Rattle.pg_schema.specs.declared.parts.field.Element.TheVariants as elements
use Rattle.pg_schema.specs.declared.parts.field.Field.{Field}
use Rattle.pg_schema.specs.declared.parts.field.Presence.{Presence}
use Rattle.pg_schema.specs.declared.parts.field.Presence.TheVariants as presences
use Rattle.pg_schema.specs.declared.parts.field.Scalar.{Scalar}
use Rattle.pg_schema.specs.declared.parts.field.Scalar.TheVariants as scalars
use Rattle.pg_schema.specs.declared.parts.options.FieldOptions.{FieldOptions}
use Rattle.pg_schema.specs.rules.DeclaredNames.{entry_name, within}
use Rattle.pg_schema.specs.rules.Scopes.{type_name, enum_name}
use Rattle.pg_set.specs.writing.Places.{Declared}
use Rattle.pg_set.specs.writing.Items.{Items, text, maybe_text, count, maybe_count, mark, stated, options}
use Rattle.pg_set.specs.declared.descriptor.proto.TheConstants as proto

-- LABEL_OPTIONAL, LABEL_REPEATED
abbrev pub label : Presence → ℕ
label presences.Implicit = 1
label presences.Explicit = 1
label (presences.Repeated packed) = 3
label (presences.Map key) = 3

-- TYPE_DOUBLE and the others
abbrev pub scalar_code : Scalar → ℕ
scalar_code scalars.Double = 1
scalar_code scalars.Float = 2
scalar_code scalars.Int64 = 3
scalar_code scalars.Uint64 = 4
scalar_code scalars.Int32 = 5
scalar_code scalars.Fixed64 = 6
scalar_code scalars.Fixed32 = 7
scalar_code scalars.Bool = 8
scalar_code scalars.String = 9
scalar_code scalars.Bytes = 12
scalar_code scalars.Uint32 = 13
scalar_code scalars.Sfixed32 = 15
scalar_code scalars.Sfixed64 = 16
scalar_code scalars.Sint32 = 17
scalar_code scalars.Sint64 = 18

-- TYPE_MESSAGE
abbrev pub message_code : ℕ
message_code = 11

-- TYPE_ENUM is 14
abbrev pub element_code : Element → ℕ
element_code (elements.Scalar s) = scalar_code s
element_code (elements.Message t) = message_code
element_code (elements.Enum e) = 14

-- a map field is one of entries
abbrev pub type_code : Presence → Element → ℕ
type_code presences.Implicit element = element_code element
type_code presences.Explicit element = element_code element
type_code (presences.Repeated packed) element = element_code element
type_code (presences.Map key) element = message_code

-- a full name with a dot in front
abbrev pub dotted : List ℕ → List ℕ
dotted name = 46 ∷ name

abbrev pub element_name : Declared → Element → Option (List ℕ)
element_name all (elements.Scalar s) = None
element_name all (elements.Enum e) = option_map dotted (enum_name all.enums e)
element_name all (elements.Message t) = option_map dotted (type_name all.types t)

-- what a field's type is called, in a message of that full name
abbrev pub named_type : Declared → (scope : List ℕ) → Field → Option (List ℕ)
named_type all scope f = of f.presence
  where
    of : Presence → Option (List ℕ)
    of presences.Implicit = element_name all f.element
    of presences.Explicit = element_name all f.element
    of (presences.Repeated packed) = element_name all f.element
    of (presences.Map key) = Some (dotted (within scope (entry_name (string_bytes f.name))))

-- FieldOptions
abbrev pub field_options : FieldOptions → Items
field_options o = stated proto.FIELD_PACKED o.packed ++ stated proto.FIELD_DEPRECATED o.deprecated

-- the oneof that a field is in, where the next synthetic one is at that index
abbrev pub oneof_place : (next : ℕ) → Field → Option ℕ
oneof_place next f = if f.states_optional then Some next else f.oneof

-- a field of a message of that full name
abbrev pub field_items : Declared → (scope : List ℕ) → (next : ℕ) → Field → Items
field_items all scope next f =
    text proto.FIELD_NAME (string_bytes f.name) ++ count proto.FIELD_NUMBER f.number
    ++ count proto.FIELD_LABEL (label f.presence) ++ count proto.FIELD_TYPE (type_code f.presence f.element)
    ++ maybe_text proto.FIELD_TYPE_NAME (named_type all scope f)
    ++ options proto.FIELD_OPTIONS (field_options f.options) ++ maybe_count proto.FIELD_ONEOF_INDEX (oneof_place next f)
    ++ text proto.FIELD_JSON_NAME (string_bytes f.json_name) ++ mark proto.FIELD_PROTO3_OPTIONAL f.states_optional

-- fields in order of declaration, with the index of the first one's synthetic oneof
abbrev pub fields_items : Declared → (scope : List ℕ) → (next : ℕ) → List Field → List Items
fields_items all scope next [] = []
fields_items all scope next (f ∷ fs) =
    field_items all scope next f ∷ fields_items all scope (if f.states_optional then suc next else next) fs
