-- The items of a set's fields and its entry types, as a function of its messages (descriptor.proto,
-- `FieldDescriptorProto`; proto3 language guide). Nothing where a type isn't there or is of another kind, or where an
-- entry type hasn't its form, which is this profile's choice.
use Rattle.std.specs.Prelude.{ℕ, ℤ, pos, Bool, not, ◌&&◌, nat_eq, List, [], ◌∷◌, find, length, codes, Option, Some, None, is_some, option_map, if◌then◌else◌}
use Rattle.std.specs.Option.{option_and_then, unwrap_or}
use Rattle.std.specs.Ordering.{int_eq}
use Rattle.std.specs.Str.{bytes_eq}
use Rattle.pg_schema.specs.declared.parts.field.Element.{Element}
use Rattle.pg_schema.specs.declared.parts.field.Element.TheVariants as elements
use Rattle.pg_schema.specs.declared.parts.field.Scalar.{Scalar}
use Rattle.pg_schema.specs.declared.parts.field.Scalar.TheVariants as kinds
use Rattle.pg_dyn.specs.message.Message.{Message, parts}
use Rattle.pg_set.specs.stated.Codes.{scalars}
use Rattle.pg_set.specs.writing.Fields.{element_code, scalar_code}
use Rattle.pg_set.specs.declared.descriptor.proto.TheConstants as proto
use Rattle.pg_set.specs.stated.SetMessages.{children_at, item_at, items_at, maybe_flag_at, maybe_text_at, number_at, options_at, text_at}
use Rattle.pg_set.specs.stated.StatedNames.{NameLookup, both, element_of_named, meant, only_if}
use Rattle.pg_set.specs.stated.TypeMessages.{is_optional, label_at}

-- ---- items

abbrev pub scalar_of : ℤ → Option Scalar
scalar_of code = find (λ s. int_eq code (pos (scalar_code s))) scalars

-- where its code is that one
abbrev pub of_code : ℤ → Element → Option Element
of_code code e = only_if (int_eq code (pos (element_code e))) (Some e)

-- what the name of its type means, of the type's kind
abbrev pub named_element : NameLookup → Message → Option Element
named_element means m = option_and_then (of_code (number_at proto.FIELD_TYPE m)) (option_and_then element_of_named (meant means (maybe_text_at proto.FIELD_TYPE_NAME m)))

-- that of a field which is no map; a scalar names no type
abbrev pub element : NameLookup → Message → Option Element
element means m =
    if is_some (item_at proto.FIELD_TYPE_NAME m) then named_element means m else option_map elements.Scalar (scalar_of (number_at proto.FIELD_TYPE m))

-- ---- entry types

abbrev pub lacks : (number : ℕ) → Message → Bool
lacks number m = not (is_some (item_at number m))

abbrev pub lacks_all : (number : ℕ) → Message → Bool
lacks_all number m = nat_eq (length (items_at number m)) 0

abbrev pub is_empty : Message → Bool
is_empty m = nat_eq (length (parts m)) 0

-- the string is that one
abbrev pub says : (number : ℕ) → Message → List ℕ → Bool
says number m stated = bytes_eq (text_at number m) stated

-- the JSON name is that one, or missing
abbrev pub may_say : (number : ℕ) → Message → List ℕ → Bool
may_say number m stated = bytes_eq (unwrap_or (maybe_text_at number m) stated) stated

-- the field `key` or `value` of an entry type, but for its items: it has no options, and is in no oneof
abbrev pub is_entry_field : (called : List ℕ) → (place : ℕ) → Message → Bool
is_entry_field called place m =
    says proto.FIELD_NAME m called && int_eq (number_at proto.FIELD_NUMBER m) (pos place) && int_eq (label_at m) (pos 1)
    && is_empty (options_at proto.FIELD_OPTIONS m)
    && lacks proto.FIELD_ONEOF_INDEX m && may_say proto.FIELD_JSON_NAME m called && not (is_optional m)

-- an entry type has nothing but fields
abbrev pub has_fields_alone : Message → Bool
has_fields_alone m =
    lacks_all proto.MESSAGE_NESTED_TYPE m && lacks_all proto.MESSAGE_ENUM_TYPE m
    && not (is_some (maybe_flag_at proto.MESSAGE_DEPRECATED (options_at proto.MESSAGE_OPTIONS m)))
    && lacks_all proto.MESSAGE_ONEOF_DECL m && lacks_all proto.MESSAGE_RESERVED_RANGE m
    && lacks_all proto.MESSAGE_RESERVED_NAME m

-- a type that may not be a key is said as that of floats, which may not either: that is a rule
abbrev pub key_of : Element → Scalar
key_of (elements.Scalar s) = s
key_of (elements.Enum e) = kinds.Float
key_of (elements.Message t) = kinds.Float

abbrev pub key_with : Element → Element → Scalar × Element
key_with key value = (key_of key, value)

-- the key and the value, by their fields
abbrev pub pair_of : NameLookup → (key value : Message) → Option (Scalar × Element)
pair_of means k v = only_if (is_entry_field (codes "key") 1 k && is_entry_field (codes "value") 2 v) (both key_with (element means k) (element means v))

abbrev pub key_and_value : NameLookup → List Message → Option (Scalar × Element)
key_and_value means [] = None
key_and_value means (k ∷ []) = None
key_and_value means (k ∷ v ∷ []) = pair_of means k v
key_and_value means (k ∷ v ∷ m ∷ ms) = None

-- the key and the value of an entry type
abbrev pub entry : NameLookup → Message → Option (Scalar × Element)
entry means m = only_if (has_fields_alone m) (key_and_value means (children_at proto.MESSAGE_FIELD m))
