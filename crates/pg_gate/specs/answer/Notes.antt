-- What is noted of two sides: just what `notes` of pg_notes tells of their schemas, in its order, with full names and
-- numbers.
use Rattle.std.specs.Prelude.{◌≡◌, ℕ, ℤ, pos, Bool, List, [], ◌++◌, map, slice_get, Option, Some, None, option_and_then, option_map, codes, string_bytes, if◌then◌else◌}
use Rattle.std.specs.Option.{option_map_or}
use Rattle.pg_link.specs.names.Names.{Text}
use Rattle.pg_notes.specs.Notes.{notes}
use Rattle.pg_notes.specs.declared.note.Note.{Note}
use Rattle.pg_notes.specs.declared.note.Note.TheVariants as noted
use Rattle.pg_schema.specs.Parts.{enum_at}
use Rattle.pg_schema.specs.declared.parts.enum_type.EnumType.{EnumType}
use Rattle.pg_schema.specs.declared.parts.enum_type.EnumValue.{EnumValue}
use Rattle.pg_schema.specs.declared.parts.field.EnumId.{EnumId}
use Rattle.pg_schema.specs.declared.parts.Parts.{Parts}
use Rattle.pg_schema.specs.declared.parts.service.Method.{Method}
use Rattle.pg_schema.specs.declared.parts.service.Service.{Service}
use Rattle.pg_schema.specs.declared.parts.service.ServiceId.{ServiceId}
use Rattle.pg_gate.specs.answer.Steps.{field_name}
use Rattle.pg_gate.specs.declared.answer.member.Member.{Member}
use Rattle.pg_gate.specs.declared.answer.member.Member.TheVariants as members
use Rattle.pg_lines.specs.declared.note.PlacedNote.{PlacedNote}
use Rattle.pg_lines.specs.declared.step.NamedField.{NamedField}

-- ---- what a note names

-- in the old schema: the field of the number, or the value or the method
abbrev pub old_member : Note → Member
old_member (noted.Renamed types number now) = members.Field types.old number
old_member (noted.Moved types number now) = members.Field types.old number
old_member (noted.Unreserved types number) = members.Field types.old number
old_member (noted.PresenceDropped types number) = members.Field types.old number
old_member (noted.NumberToList types number) = members.Field types.old number
old_member (noted.ValueRenamed enums value now) = members.Value enums.old value
old_member (noted.ValueGone enums value) = members.Value enums.old value
old_member (noted.MethodGone service method now) = members.Method service method
old_member (noted.MethodChanged services method now) = members.Method services.old method

-- In the new schema: the field of the same number, or of the same name where that moved; the first value of the same
-- number; the method of the same name. None of what is gone.
abbrev pub new_member : Note → Option Member
new_member (noted.Renamed types number now) = Some (members.Field types.new number)
new_member (noted.Moved types number now) = Some (members.Field types.new now)
new_member (noted.Unreserved types number) = None
new_member (noted.PresenceDropped types number) = Some (members.Field types.new number)
new_member (noted.NumberToList types number) = Some (members.Field types.new number)
new_member (noted.ValueRenamed enums value now) = Some (members.Value enums.new now)
new_member (noted.ValueGone enums value) = None
new_member (noted.MethodGone service method now) = None
new_member (noted.MethodChanged services method now) = Some (members.Method services.new now)

-- ---- names and numbers

-- the full name of what declares a member, a dot, and the member's own
abbrev pub dotted : Text → Text → Text
dotted owner own = (owner ++ codes ".") ++ own

abbrev pub value_at : Parts → EnumId → ℕ → Option EnumValue
value_at schema id index = option_and_then (λ (e : EnumType). slice_get e.values.items index) (enum_at schema id)

abbrev pub value_name : Parts → EnumId → ℕ → Text
value_name schema id index =
    dotted (option_map_or (λ (e : EnumType). string_bytes e.name) (enum_at schema id) [])
    (option_map_or (λ (v : EnumValue). string_bytes v.name) (value_at schema id index) [])

abbrev pub service_at : Parts → ServiceId → Option Service
service_at schema id = slice_get schema.services.items id.index

abbrev pub method_at : Parts → ServiceId → ℕ → Option Method
method_at schema id index = option_and_then (λ (s : Service). slice_get s.methods.items index) (service_at schema id)

abbrev pub method_name : Parts → ServiceId → ℕ → Text
method_name schema id index =
    dotted (option_map_or (λ (s : Service). string_bytes s.name) (service_at schema id) [])
    (option_map_or (λ (m : Method). string_bytes m.name) (method_at schema id index) [])

abbrev pub member_name : Parts → Member → Text
member_name schema (members.Field id number) = field_name schema id number
member_name schema (members.Value id index) = value_name schema id index
member_name schema (members.Method id index) = method_name schema id index

-- the number of a field or of an enum's value; a method has none
abbrev pub number_of : Parts → Member → Option ℤ
number_of schema (members.Field id number) = Some (pos number)
number_of schema (members.Value id index) = option_map (λ (v : EnumValue). v.number) (value_at schema id index)
number_of schema (members.Method id index) = None

-- ---- what is noted

-- a note with the old member's number, and with the full names of both members
pub record NamedNote : Type 0 where
  pub note : Note
  pub number : Option ℤ
  pub old : Text
  pub new : Option Text

abbrev pub named_note : Parts → Parts → Note → NamedNote
named_note old new note = record {
  note = note;
  number = number_of old (old_member note);
  old = member_name old (old_member note);
  new = option_map (member_name new) (new_member note);
}

abbrev pub name_in : NamedField → Text
name_in field = string_bytes field.name

-- a note without its positions
abbrev pub named : PlacedNote → NamedNote
named placed = record {
  note = placed.note;
  number = placed.number;
  old = name_in placed.old;
  new = option_map name_in placed.new;
}

-- all that is told of the two schemas where it is asked for, and else nothing
abbrev pub notes_if : (asked : Bool) → Parts → Parts → List Note
notes_if asked old new = if asked then notes old new else []

abbrev pub AreNotes : (asked : Bool) → Parts → Parts → List PlacedNote → Type 0
AreNotes asked old new placed = map named placed ≡ map (named_note old new) (notes_if asked old new)
