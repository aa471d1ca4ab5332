-- What holds of each message type, taken by itself (proto3 language guide, "Message definition", "Oneof", "Reserved
-- Fields").
use Rattle.std.specs.Prelude.{ℕ, zero, suc, Bool, true, false, nat_eq, ◌&&◌, List, ◌∷◌, map, Option, Some, None, is_some, length}
use Rattle.std.specs.List.{list_all, list_any}
use Rattle.std.specs.String.{string_bytes}
use Rattle.pg_schema.specs.declared.parts.field.Field.{Field}
use Rattle.pg_schema.specs.declared.parts.message_type.MessageType.{MessageType}
use Rattle.pg_schema.specs.rules.Fields.{is_field_number, has_presence, is_packed, is_known, is_oneof}
use Rattle.pg_schema.specs.rules.Pairs.{is_rising, are_distinct}
use Rattle.pg_schema.specs.rules.TextSets.{are_named_once}
use Rattle.pg_schema.specs.rules.Uses.{message_uses, is_used_once, is_reserved_range}
use Rattle.pg_schema.specs.rules.Words.{is_word}

-- the field by itself, in a message with so many oneofs, among so many message types and enums
abbrev pub is_field : (oneofs types enums : ℕ) → Field → Bool
is_field oneofs types enums f =
    is_field_number f.number && is_word (string_bytes f.name)
    && has_presence f.presence f.element (is_some f.oneof) f.states_optional
    && is_packed f.presence f.element f.options.packed && is_known types enums f.element && is_oneof oneofs f.oneof

abbrev pub numbers : List Field → List ℕ
numbers fields = map (λ (f : Field). f.number) fields

abbrev pub field_names : List Field → List (List ℕ)
field_names fields = map (λ (f : Field). string_bytes f.name) fields

-- JSON names, given or default
abbrev pub json_names : List Field → List (List ℕ)
json_names fields = map (λ (f : Field). string_bytes f.json_name) fields

abbrev pub is_place : ℕ → Option ℕ → Bool
is_place place None = false
is_place place (Some other) = nat_eq other place

-- the field is a member of the oneof at that index
abbrev pub is_member : ℕ → Field → Bool
is_member place f = is_place place f.oneof

-- the oneofs at the indices below that have a member each
abbrev pub have_members : ℕ → List Field → Bool
have_members zero fields = true
have_members (suc place) fields = list_any (is_member place) fields && have_members place fields

-- the fields' numbers in order of declaration are as many as the fields, with that of each
abbrev pub is_declared : List ℕ → List Field → Bool
is_declared declared fields =
    nat_eq (length declared) (length fields) && list_all (λ (f : Field). list_any (nat_eq f.number) declared) fields

-- the fields by themselves and in their order, by rising number from above 0
abbrev pub has_fields : (types enums : ℕ) → MessageType → Bool
has_fields types enums t =
    list_all (is_field (length t.oneofs.items) types enums) t.fields.items && is_rising (0 ∷ numbers t.fields.items)
    && is_declared t.declared.items t.fields.items

-- each oneof is a word and has a member
abbrev pub has_oneofs : MessageType → Bool
has_oneofs t =
    list_all (λ text. is_word (string_bytes text)) t.oneofs.items && have_members (length t.oneofs.items) t.fields.items

-- no number is used twice, and no name; no field has a reserved name
abbrev pub has_reserved : MessageType → Bool
has_reserved t =
    list_all is_reserved_range t.reserved_numbers.items
    && is_used_once false (message_uses t.fields.items t.reserved_numbers.items)
    && are_named_once (field_names t.fields.items) (map string_bytes t.reserved_names.items)

-- That two fields of one JSON name are refused, given or default, byte by byte, is this project's choice.
abbrev pub is_message_type : (types enums : ℕ) → MessageType → Bool
is_message_type types enums t =
    has_fields types enums t && has_oneofs t && has_reserved t && are_distinct (json_names t.fields.items)
