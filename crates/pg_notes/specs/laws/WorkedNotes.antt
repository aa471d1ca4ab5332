-- What is told and what isn't, by small examples: of each kind something that is told of, and something that isn't.
use Rattle.std.specs.Prelude.{◌≡◌, ℕ, pos, true, false, List, [], ◌∷◌, codes, Some, None}
use Rattle.pg_schema.specs.declared.parts.enum_type.EnumValue.{EnumValue}
use Rattle.pg_schema.specs.declared.parts.field.Element.{Element}
use Rattle.pg_schema.specs.declared.parts.field.Element.TheVariants as elements
use Rattle.pg_schema.specs.declared.parts.field.Field.{Field}
use Rattle.pg_schema.specs.declared.parts.field.Presence.{Presence}
use Rattle.pg_schema.specs.declared.parts.field.Presence.TheVariants as presences
use Rattle.pg_schema.specs.declared.parts.field.Scalar.TheVariants as scalars
use Rattle.pg_schema.specs.declared.parts.message_type.ReservedFields.{ReservedFields}
use Rattle.pg_schema.specs.declared.parts.Parts.{Parts}
use Rattle.pg_schema.specs.declared.parts.service.Method.{Method}
use Rattle.pg_notes.specs.EnumNotes.{value_name, value_notes}
use Rattle.pg_notes.specs.FieldNotes.{field_name, field_notes}
use Rattle.pg_notes.specs.ServiceNotes.{bool_eq, gone_notes, method_notes}
use Rattle.pg_notes.specs.declared.note.EnumPair.{EnumPair}
use Rattle.pg_notes.specs.declared.note.Note.TheVariants.{Renamed, Moved, Unreserved, PresenceDropped, NumberToList, ValueRenamed, ValueGone, MethodGone}
use Rattle.pg_notes.specs.declared.note.ServicePair.{ServicePair}
use Rattle.pg_notes.specs.declared.note.TypePair.{TypePair}

abbrev pub int32 : Element
int32 = elements.Scalar scalars.Int32

abbrev pub text : Element
text = elements.Scalar scalars.String

-- the field, with that number, presence and element, in place of its own
abbrev pub numbered : ℕ → Presence → Element → Field → Field
numbered number presence element f = record f { number = number; presence = presence; element = element }

-- the plain `int32` field of that number
abbrev pub plain : ℕ → Field → Field
plain number f = numbered number presences.Implicit int32 f

-- the value, with that number in place of its own
abbrev pub valued : ℕ → EnumValue → EnumValue
valued number v = record v { number = pos number }

-- `3 to 5`
abbrev pub three_to_five : List ReservedFields
three_to_five = record { first = 3; last = 5 } ∷ []

-- of fields, values and methods with these names
pub record WorkedNotes : Type 0 where
  pub equal : (types : TypePair) (a : Field) → field_name a ≡ codes "a"
      → field_notes types (plain 1 a ∷ []) [] (plain 1 a) ≡ []
  pub renamed : (types : TypePair) (a b : Field) → field_name a ≡ codes "a" → field_name b ≡ codes "b"
      → field_notes types (plain 1 b ∷ []) [] (plain 1 a) ≡ Renamed types 1 None ∷ []
  pub exchanged : (types : TypePair) (a b : Field) → field_name a ≡ codes "a" → field_name b ≡ codes "b"
      → field_notes types (plain 1 b ∷ plain 2 a ∷ []) [] (plain 1 a)
      ≡ Renamed types 1 (Some 2) ∷ Moved types 1 2 ∷ []
  pub moved : (types : TypePair) (a : Field) → field_name a ≡ codes "a"
      → field_notes types (plain 7 a ∷ []) three_to_five (plain 4 a) ≡ Moved types 4 7 ∷ []
  pub unreserved : (types : TypePair) (a : Field)
      → field_notes types [] three_to_five (plain 2 a) ≡ Unreserved types 2 ∷ []
  pub unreserved_above : (types : TypePair) (a : Field)
      → field_notes types [] three_to_five (plain 6 a) ≡ Unreserved types 6 ∷ []
  pub first_reserved : (types : TypePair) (a : Field) → field_notes types [] three_to_five (plain 3 a) ≡ []
  pub last_reserved : (types : TypePair) (a : Field) → field_notes types [] three_to_five (plain 5 a) ≡ []
  pub presence_dropped : (types : TypePair) (a : Field) → field_name a ≡ codes "a"
      → field_notes types (plain 1 a ∷ []) [] (numbered 1 presences.Explicit int32 a)
      ≡ PresenceDropped types 1 ∷ []
  pub presence_gained : (types : TypePair) (a : Field) → field_name a ≡ codes "a"
      → field_notes types (numbered 1 presences.Explicit int32 a ∷ []) [] (plain 1 a) ≡ []
  pub packed_list : (types : TypePair) (a : Field) → field_name a ≡ codes "a"
      → field_notes types (numbered 1 (presences.Repeated true) int32 a ∷ []) [] (plain 1 a)
      ≡ NumberToList types 1 ∷ []
  pub unpacked_list : (types : TypePair) (a : Field) → field_name a ≡ codes "a"
      → field_notes types (numbered 1 (presences.Repeated false) int32 a ∷ []) [] (plain 1 a) ≡ []
  pub list_of_texts : (types : TypePair) (a : Field) → field_name a ≡ codes "a"
      → field_notes types (numbered 1 (presences.Repeated false) text a ∷ []) []
      (numbered 1 presences.Implicit text a) ≡ []
  pub list_before : (types : TypePair) (a : Field) → field_name a ≡ codes "a"
      → field_notes types (numbered 1 (presences.Repeated true) int32 a ∷ []) []
      (numbered 1 (presences.Repeated false) int32 a) ≡ []
  pub same_value : (enums : EnumPair) (a b : EnumValue) → value_name a ≡ codes "A" → value_name b ≡ codes "B"
      → value_notes enums (valued 1 b ∷ valued 1 a ∷ []) 0 (valued 1 a) ≡ []
  pub value_renamed : (enums : EnumPair) (a b : EnumValue) → value_name a ≡ codes "A" → value_name b ≡ codes "B"
      → value_notes enums (valued 1 b ∷ valued 2 a ∷ []) 3 (valued 1 a) ≡ ValueRenamed enums 3 0 ∷ []
  pub value_gone : (enums : EnumPair) (a : EnumValue) → value_name a ≡ codes "A"
      → value_notes enums (valued 2 a ∷ []) 3 (valued 1 a) ≡ ValueGone enums 3 ∷ []
  pub method_gone : (old new : Parts) (services : ServicePair) (m : Method)
      → method_notes old new services [] 2 m ≡ MethodGone services.old 2 (Some services.new) ∷ []
  pub service_gone : (services : ServicePair) (m : Method)
      → gone_notes services.old (m ∷ m ∷ [])
      ≡ MethodGone services.old 0 None ∷ MethodGone services.old 1 None ∷ []
  pub streams : (bool_eq true true ≡ true) × (bool_eq true false ≡ false)
