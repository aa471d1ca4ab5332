-- The types and labels of a set's fields (descriptor.proto, `FieldDescriptorProto.Type` and `Label`).
use Rattle.std.specs.Prelude.{ℕ, zero, suc, ℤ, pos, Bool, true, ◌&&◌, List, [], ◌∷◌}
use Rattle.std.specs.List.{list_all, list_any}
use Rattle.std.specs.Ordering.{int_eq}
use Rattle.pg_schema.specs.declared.parts.field.Scalar.{Scalar}
use Rattle.pg_schema.specs.declared.parts.field.Scalar.TheVariants as kinds
use Rattle.pg_dyn.specs.message.Message.{Message}
use Rattle.pg_schema.specs.standing.Places.{most_deep}
use Rattle.pg_set.specs.stated.SetMessages.{children_at, number_at}
use Rattle.pg_set.specs.stated.TypeMessages.{label_at}
use Rattle.pg_set.specs.declared.descriptor.proto.TheConstants as proto

-- TYPE_DOUBLE and the others up to TYPE_SINT64, without TYPE_GROUP
abbrev pub type_codes : List ℤ
type_codes =
    pos 1 ∷ pos 2 ∷ pos 3 ∷ pos 4 ∷ pos 5 ∷ pos 6 ∷ pos 7 ∷ pos 8 ∷ pos 9 ∷ pos 11 ∷ pos 12 ∷ pos 13 ∷ pos 14 ∷ pos 15
    ∷ pos 16 ∷ pos 17 ∷ pos 18 ∷ []

-- the scalars, by rising code
abbrev pub scalars : List Scalar
scalars =
    kinds.Double ∷ kinds.Float ∷ kinds.Int64 ∷ kinds.Uint64 ∷ kinds.Int32 ∷ kinds.Fixed64 ∷ kinds.Fixed32 ∷ kinds.Bool
    ∷ kinds.String ∷ kinds.Bytes ∷ kinds.Uint32
    ∷ kinds.Sfixed32 ∷ kinds.Sfixed64 ∷ kinds.Sint32 ∷ kinds.Sint64 ∷ []

-- LABEL_OPTIONAL, LABEL_REPEATED
abbrev pub label_codes : List ℤ
label_codes = pos 1 ∷ pos 3 ∷ []

-- the field's type is there and taken, and so is its label, which may be missing
abbrev pub is_taken : Message → Bool
is_taken m = list_any (int_eq (number_at proto.FIELD_TYPE m)) type_codes && list_any (int_eq (label_at m)) label_codes

-- those of a message type's fields, and of what is inside it
abbrev pub has_types : (List Message → Bool) → Message → Bool
has_types inside m =
    list_all is_taken (children_at proto.MESSAGE_FIELD m) && inside (children_at proto.MESSAGE_NESTED_TYPE m)

-- those of message types, nested less deep than that
abbrev pub have_types : (depth : ℕ) → List Message → Bool
have_types zero ms = true
have_types (suc depth) ms = list_all (has_types (have_types depth)) ms

-- those of a file's
abbrev pub file_has_types : Message → Bool
file_has_types m = have_types most_deep (children_at proto.FILE_MESSAGE_TYPE m)
