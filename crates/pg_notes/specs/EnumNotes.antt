-- What is told of the values of an enum (proto3 language guide, "Enumerations", "Updating A Message Type"): JSON and the
-- text format write a value by its name, and code names it so.
use Rattle.std.specs.Prelude.{ℕ, ℤ, Bool, false, List, [], ◌∷◌, flat_map, Option, Some, None, string_bytes, find, if◌then◌else◌}
use Rattle.std.specs.List.{enumerate_from}
use Rattle.std.specs.Ordering.{int_eq}
use Rattle.std.specs.Str.{bytes_eq}
use Rattle.pg_schema.specs.declared.parts.enum_type.EnumType.{EnumType}
use Rattle.pg_schema.specs.declared.parts.enum_type.EnumValue.{EnumValue}
use Rattle.pg_notes.specs.Named.{place_of_number}
use Rattle.pg_notes.specs.declared.note.EnumPair.{EnumPair}
use Rattle.pg_notes.specs.declared.note.Note.{Note}
use Rattle.pg_notes.specs.declared.note.Note.TheVariants.{ValueRenamed, ValueGone}

abbrev pub value_name : EnumValue → List ℕ
value_name v = string_bytes v.name

-- there is a value, of this number
abbrev pub is_of_number : ℤ → Option EnumValue → Bool
is_of_number number None = false
is_of_number number (Some v) = int_eq number v.number

-- the values have that name at that number
abbrev pub has_value : List EnumValue → EnumValue → Bool
has_value values v = is_of_number v.number (find (λ w. bytes_eq (value_name v) (value_name w)) values)

-- the number has other names, of which the first is told, or none
abbrev pub lost_value : EnumPair → ℕ → Option ℕ → Note
lost_value enums value None = ValueGone enums value
lost_value enums value (Some now) = ValueRenamed enums value now

-- what is told of the old value at that index, beside the new values
abbrev pub value_notes : EnumPair → List EnumValue → ℕ → EnumValue → List Note
value_notes enums values index v =
    if has_value values v then [] else lost_value enums index (place_of_number values v.number) ∷ []

-- what is told of the old values, in order: nothing where there is no new enum
abbrev pub enum_notes : EnumPair → List EnumValue → Option EnumType → List Note
enum_notes enums old_values None = []
enum_notes enums old_values (Some e) =
    flat_map (λ at. value_notes enums e.values.items at.0 at.1) (enumerate_from 0 old_values)
