-- What is told of the fields of a message type (proto3 language guide, "Updating A Message Type"). That guide's words:
-- "Don't change the field numbers for any existing fields"; "Fields can be removed, as long as the field number is not
-- used again in your updated message type. You may want to rename the field instead [..] or make the field number
-- reserved". "Field Presence" says which fields have presence. Of numbers as lists: "Repeated fields of numeric types are
-- serialized in the packed format by default, which will not be parsed correctly when a singular field is expected".
use Rattle.std.specs.Prelude.{ℕ, Bool, false, not, ◌&&◌, nat_eq, nat_le, List, [], ◌∷◌, ◌++◌, find, flat_map, Option, Some, None, option_map, string_bytes, if◌then◌else◌}
use Rattle.std.specs.List.{list_any}
use Rattle.std.specs.Str.{bytes_eq}
use Rattle.pg_schema.specs.declared.parts.field.Field.{Field}
use Rattle.pg_schema.specs.declared.parts.field.Presence.{Presence}
use Rattle.pg_schema.specs.declared.parts.field.Presence.TheVariants as presences
use Rattle.pg_schema.specs.declared.parts.message_type.MessageType.{MessageType}
use Rattle.pg_schema.specs.declared.parts.message_type.ReservedFields.{ReservedFields}
use Rattle.pg_schema.specs.Shape.{is_implicit, is_packable, is_singular}
use Rattle.pg_notes.specs.declared.note.Note.{Note}
use Rattle.pg_notes.specs.declared.note.Note.TheVariants.{Renamed, Moved, Unreserved, PresenceDropped, NumberToList}
use Rattle.pg_notes.specs.declared.note.TypePair.{TypePair}

abbrev pub field_name : Field → List ℕ
field_name f = string_bytes f.name

-- the field of the number
abbrev pub field_at : List Field → ℕ → Option Field
field_at fields number = find (λ (f : Field). nat_eq f.number number) fields

-- the number of the field of the name
abbrev pub number_of : List Field → List ℕ → Option ℕ
number_of fields name = option_map (λ (f : Field). f.number) (find (λ f. bytes_eq name (field_name f)) fields)

-- the number is one of the reserved ones
abbrev pub is_reserved : List ReservedFields → ℕ → Bool
is_reserved ranges number = list_any (λ (r : ReservedFields). nat_le r.first number && nat_le number r.last) ranges

-- at most one item, and whether there is one is told: `optional`, a member of a oneof, or a message
abbrev pub has_presence : Presence → Bool
has_presence presence = is_singular presence && not (is_implicit presence)

-- a list that is written as one record
abbrev pub is_packed_list : Presence → Bool
is_packed_list presences.Implicit = false
is_packed_list presences.Explicit = false
is_packed_list (presences.Repeated packed) = packed
is_packed_list (presences.Map key) = false

-- the note, where the test holds
abbrev pub told_if : Bool → Note → List Note
told_if test note = if test then note ∷ [] else []

-- Of each kind: the old field, what the new type has at its number, the number at which that type has its name, and
-- whether that type reserves its number.

-- both types have the number, under different names
abbrev pub renamed : TypePair → Field → Option Field → Option ℕ → List Note
renamed types f None now = []
renamed types f (Some g) now = told_if (not (bytes_eq (field_name f) (field_name g))) (Renamed types f.number now)

-- the new type has the old name, at another number
abbrev pub moved : TypePair → Field → Option ℕ → List Note
moved types f None = []
moved types f (Some now) = told_if (not (nat_eq f.number now)) (Moved types f.number now)

-- the new type neither has the number nor reserves it
abbrev pub unreserved : TypePair → Field → Option Field → Bool → List Note
unreserved types f None reserved = told_if (not reserved) (Unreserved types f.number)
unreserved types f (Some g) reserved = []

-- both have the number, both single; the old field has presence, and the new one hasn't
abbrev pub presence_dropped : TypePair → Field → Option Field → List Note
presence_dropped types f None = []
presence_dropped types f (Some g) =
    told_if (has_presence f.presence && is_implicit g.presence) (PresenceDropped types f.number)

-- a single field of a packable scalar or enum is now a packed list
abbrev pub number_to_list : TypePair → Field → Option Field → List Note
number_to_list types f None = []
number_to_list types f (Some g) =
    told_if (is_singular f.presence && is_packable f.element && is_packed_list g.presence)
    (NumberToList types f.number)

-- what is told of an old field, beside these fields and reserved numbers of the new type
abbrev pub field_notes : TypePair → List Field → List ReservedFields → Field → List Note
field_notes types fields ranges f =
    renamed types f (field_at fields f.number) (number_of fields (field_name f))
    ++ moved types f (number_of fields (field_name f))
    ++ unreserved types f (field_at fields f.number) (is_reserved ranges f.number)
    ++ presence_dropped types f (field_at fields f.number)
    ++ number_to_list types f (field_at fields f.number)

-- what is told of the old fields, in order: nothing where there is no new type
abbrev pub pair_notes : TypePair → List Field → Option MessageType → List Note
pair_notes types old_fields None = []
pair_notes types old_fields (Some t) =
    flat_map (field_notes types t.fields.items t.reserved_numbers.items) old_fields
