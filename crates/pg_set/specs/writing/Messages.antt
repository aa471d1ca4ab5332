-- The messages of message types and enums, `DescriptorProto` and `EnumDescriptorProto` of descriptor.proto.
use Rattle.std.specs.Prelude.{ℕ, zero, suc, List, [], ◌∷◌, ◌++◌, map, flat_map, find, length, nat_eq, slice_get, Option, Some, None}
use Rattle.std.specs.String.{string_bytes}
use Rattle.pg_schema.specs.declared.parts.enum_type.EnumType.{EnumType}
use Rattle.pg_schema.specs.declared.parts.enum_type.EnumValue.{EnumValue}
use Rattle.pg_schema.specs.declared.parts.enum_type.ReservedValues.{ReservedValues}
use Rattle.pg_schema.specs.declared.parts.field.EnumId.{EnumId}
use Rattle.pg_schema.specs.declared.parts.field.Field.{Field}
use Rattle.pg_schema.specs.declared.parts.field.TypeId.{TypeId}
use Rattle.pg_schema.specs.declared.parts.message_type.MessageType.{MessageType}
use Rattle.pg_schema.specs.declared.parts.message_type.ReservedFields.{ReservedFields}
use Rattle.pg_schema.specs.declared.parts.options.EnumOptions.{EnumOptions}
use Rattle.pg_schema.specs.rules.DeclaredNames.{entry_names, values_at}
use Rattle.pg_schema.specs.rules.Messages.{field_names}
use Rattle.pg_schema.specs.rules.Words.{parts_at_dots}
use Rattle.pg_set.specs.writing.Places.{Declared}
use Rattle.pg_set.specs.writing.Entries.{entries}
use Rattle.pg_set.specs.writing.Fields.{fields_items}
use Rattle.pg_set.specs.writing.Items.{Items, text, texts, whole, count, stated, children, options}
use Rattle.pg_set.specs.declared.descriptor.proto.TheConstants as proto
use Rattle.pg_set.specs.writing.Synthetic.{synthetic_oneofs}

-- ---- names

abbrev pub last_of : List (List ℕ) → List ℕ
last_of [] = []
last_of (name ∷ []) = name
last_of (name ∷ next ∷ names) = last_of (next ∷ names)

-- what comes after the last dot of a full name
abbrev pub own_name : List ℕ → List ℕ
own_name name = last_of (parts_at_dots name)

-- the item, where there is one
abbrev pub where_found : {A B : Type 0} → (A → B) → Option A → List B
where_found f None = []
where_found f (Some x) = f x ∷ []

-- ---- enums

abbrev pub value_items : EnumValue → Items
value_items v =
    text proto.VALUE_NAME (string_bytes v.name) ++ whole proto.VALUE_NUMBER v.number
    ++ options proto.VALUE_OPTIONS (stated proto.VALUE_DEPRECATED v.options.deprecated)

-- both ends are reserved too
abbrev pub value_range : ReservedValues → Items
value_range r = whole proto.RANGE_START r.first ++ whole proto.RANGE_END r.last

-- EnumOptions
abbrev pub enum_options : EnumOptions → Items
enum_options o = stated proto.ENUM_ALLOW_ALIAS o.allow_alias ++ stated proto.ENUM_DEPRECATED o.deprecated

abbrev pub enum_items : EnumType → Items
enum_items e =
    text proto.ENUM_NAME (own_name (string_bytes e.name)) ++ children proto.ENUM_VALUE (map value_items e.values.items)
    ++ options proto.ENUM_OPTIONS (enum_options e.options)
    ++ children proto.ENUM_RESERVED_RANGE (map value_range e.reserved_numbers.items)
    ++ texts proto.ENUM_RESERVED_NAME (map string_bytes e.reserved_names.items)

-- the enums at these indices
abbrev pub enums_items : Declared → List EnumId → List Items
enums_items all ids = flat_map (λ (id : EnumId). where_found enum_items (slice_get all.enums id.index)) ids

-- ---- message types

-- the fields in order of declaration
abbrev pub declared_fields : MessageType → List Field
declared_fields t = flat_map (λ number. where_found (λ f. f) (find (λ (f : Field). nat_eq f.number number) t.fields.items)) t.declared.items

abbrev pub own_type_name : MessageType → List ℕ
own_type_name t = own_name (string_bytes t.name)

abbrev pub own_enum_name : EnumType → List ℕ
own_enum_name e = own_name (string_bytes e.name)

-- what a message type declares, by names in its scope: fields, oneofs, entry types, message types, enums and their
-- values
abbrev pub names_within : Declared → MessageType → List (List ℕ)
names_within all t =
    field_names t.fields.items ++ map string_bytes t.oneofs.items ++ entry_names t.fields.items
    ++ flat_map (λ (id : TypeId). where_found own_type_name (slice_get all.types id.index)) t.nested_types.items
    ++ flat_map (λ (id : EnumId). where_found own_enum_name (slice_get all.enums id.index)) t.nested_enums.items
    ++ values_at all.enums t.nested_enums.items

-- the real ones, and then the synthetic ones
abbrev pub oneof_names : Declared → MessageType → List (List ℕ)
oneof_names all t = map string_bytes t.oneofs.items ++ synthetic_oneofs (names_within all t) (declared_fields t)

abbrev pub oneof_items : List ℕ → Items
oneof_items name = text proto.ONEOF_NAME name

-- the end of a range is the first number after it
abbrev pub field_range : ReservedFields → Items
field_range r = count proto.RANGE_START r.first ++ count proto.RANGE_END (suc r.last)

-- a message type with these message types inside it; after them are its entry types
abbrev pub type_items : Declared → List Items → MessageType → Items
type_items all nested t =
    text proto.MESSAGE_NAME (own_type_name t)
    ++ children proto.MESSAGE_FIELD (fields_items all (string_bytes t.name) (length t.oneofs.items) (declared_fields t))
    ++ children proto.MESSAGE_NESTED_TYPE (nested ++ entries all (declared_fields t))
    ++ children proto.MESSAGE_ENUM_TYPE (enums_items all t.nested_enums.items)
    ++ options proto.MESSAGE_OPTIONS (stated proto.MESSAGE_DEPRECATED t.options.deprecated)
    ++ children proto.MESSAGE_ONEOF_DECL (map oneof_items (oneof_names all t))
    ++ children proto.MESSAGE_RESERVED_RANGE (map field_range t.reserved_numbers.items)
    ++ texts proto.MESSAGE_RESERVED_NAME (map string_bytes t.reserved_names.items)

-- The message types at these indices, with what is inside them, nested so many deep. Of a schema none is nested deeper
-- than there are types.
abbrev pub types_items : (depth : ℕ) → Declared → List TypeId → List Items
types_items zero all ids = []
types_items (suc depth) all ids =
    flat_map (λ (id : TypeId). where_found (λ (t : MessageType). type_items all (types_items depth all t.nested_types.items) t) (slice_get all.types id.index)) ids
