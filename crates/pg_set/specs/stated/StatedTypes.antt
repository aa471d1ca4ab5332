-- The message types that a set states, as a function of its messages (descriptor.proto, `DescriptorProto`).
use Rattle.std.specs.Prelude.{ℕ, ◌-◌, nat_lt, List, [], ◌∷◌, filter, length, map, Option, Some, None, option_map, if◌then◌else◌}
use Rattle.std.specs.Str.{bytes_eq}
use Rattle.pg_schema.specs.declared.parts.message_type.ReservedFields.{ReservedFields}
use Rattle.pg_dyn.specs.message.Message.{Message}
use Rattle.pg_set.specs.descriptor.Descriptor.{enum_id, type_id}
use Rattle.pg_set.specs.stated.Numbering.{PlacedType}
use Rattle.pg_set.specs.stated.Outlines.{Row}
use Rattle.pg_set.specs.declared.descriptor.proto.TheConstants as proto
use Rattle.pg_set.specs.stated.SetMessages.{children_at, maybe_flag_at, natural, number_at, options_at, text_at, texts_at}
use Rattle.pg_set.specs.stated.StatedFields.{Owner, fields}
use Rattle.pg_set.specs.stated.StatedNames.{NameLookup, first_of, undotted}
use Rattle.pg_set.specs.stated.StatedOneofs.{members_in, synthetic_in}
use Rattle.pg_set.specs.stated.TypeMessages.{is_entry, real_oneofs, synthetic_places}
use Rattle.pg_set.specs.stated.Views.{FieldView, TypeView}

-- ---- what fields are made with

-- the last message of that name; names of a set occur once
abbrev pub last_named : List Message → List ℕ → Option Message
last_named [] name = None
last_named (m ∷ ms) name =
    first_of (last_named ms name) (if bytes_eq (text_at proto.MESSAGE_NAME m) name then Some m else None)

abbrev pub own_entries : Message → List Message
own_entries m = filter is_entry (children_at proto.MESSAGE_NESTED_TYPE m)

abbrev pub oneof_count : Message → ℕ
oneof_count m = length (children_at proto.MESSAGE_ONEOF_DECL m)

abbrev pub owner : Row → Owner
owner r = record {
  full = r.0;
  synthetic = synthetic_in (children_at proto.MESSAGE_FIELD r.1) (oneof_count r.1);
  members = members_in (children_at proto.MESSAGE_FIELD r.1) (oneof_count r.1);
  entries = last_named (own_entries r.1);
}

-- in order of declaration
abbrev pub declared_fields : NameLookup → Row → Option (List FieldView)
declared_fields means r = fields means (owner r) (own_entries r.1) (children_at proto.MESSAGE_FIELD r.1)

-- ---- message types

abbrev pub put_in : {A : Type 0} → (key : A → ℕ) → A → List A → List A
put_in key x [] = x ∷ []
put_in key x (y ∷ ys) = if nat_lt (key y) (key x) then y ∷ put_in key x ys else x ∷ y ∷ ys

-- by rising keys; those of one key keep their order
abbrev pub by_key : {A : Type 0} → (key : A → ℕ) → List A → List A
by_key key [] = []
by_key key (x ∷ xs) = put_in key x (by_key key xs)

abbrev pub number_of : FieldView → ℕ
number_of f = f.number

-- the names of the oneofs that aren't synthetic
abbrev pub oneof_names : Message → List (List ℕ)
oneof_names m = map (text_at proto.ONEOF_NAME) (real_oneofs (synthetic_places (children_at proto.MESSAGE_FIELD m)) 0 (children_at proto.MESSAGE_ONEOF_DECL m))

-- the end of a range is the first number after it
abbrev pub field_range : Message → ReservedFields
field_range m = record { first = natural (number_at proto.RANGE_START m); last = natural (number_at proto.RANGE_END m) - 1 }

abbrev pub type_of : PlacedType → List FieldView → TypeView
type_of p declared = record {
  name = undotted p.named.0;
  fields = by_key number_of declared;
  declared = map number_of declared;
  oneofs = oneof_names p.named.1;
  nested_types = map type_id p.types;
  nested_enums = map enum_id p.enums;
  reserved_numbers = map field_range (children_at proto.MESSAGE_RESERVED_RANGE p.named.1);
  reserved_names = texts_at proto.MESSAGE_RESERVED_NAME p.named.1;
  options = record { deprecated = maybe_flag_at proto.MESSAGE_DEPRECATED (options_at proto.MESSAGE_OPTIONS p.named.1) };
}

-- the message type of that name, with the indices of what is in it
abbrev pub message_type : NameLookup → PlacedType → Option TypeView
message_type means p = option_map (type_of p) (declared_fields means p.named)
