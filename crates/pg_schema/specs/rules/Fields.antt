-- What holds of each field of a message type, taken by itself.
use Rattle.std.specs.Prelude.{ℕ, ◌^◌, Bool, true, false, not, cond, nat_lt, nat_le, ◌&&◌, ◌||◌, Option, Some, None}
use Rattle.pg_schema.specs.declared.parts.field.Element.{Element}
use Rattle.pg_schema.specs.declared.parts.field.Element.TheVariants as elements
use Rattle.pg_schema.specs.declared.parts.field.Presence.{Presence}
use Rattle.pg_schema.specs.declared.parts.field.Presence.TheVariants as presences
use Rattle.pg_schema.specs.declared.parts.field.Scalar.{Scalar}
use Rattle.pg_schema.specs.declared.parts.field.Scalar.TheVariants as scalars
use Rattle.pg_schema.specs.Shape.{is_packable}

-- proto3 language guide, "Assigning Field Numbers": 1 to 536,870,911 without 19,000 to 19,999
abbrev pub is_field_number : ℕ → Bool
is_field_number number = nat_le 1 number && nat_lt number (2 ^ 29) && (nat_lt number 19000 || nat_le 20000 number)

abbrev pub is_message : Element → Bool
is_message (elements.Scalar s) = false
is_message (elements.Enum e) = false
is_message (elements.Message t) = true

-- integral types, bool and string (proto3 language specification, "Map field")
abbrev pub is_key : Scalar → Bool
is_key scalars.Double = false
is_key scalars.Float = false
is_key scalars.Bytes = false
is_key s = true

-- proto3 language guide, "Field Presence": a singular scalar or enum without `optional`, outside a oneof, is implicit;
-- `optional` fields, members of a oneof and singular messages are explicit. "Oneof", "Maps": a member isn't `optional`,
-- and no repeated or map field is a member or `optional`. "Maps": a key is of an integral type, bool or string.
abbrev pub has_presence : Presence → Element → (member stated : Bool) → Bool
has_presence presences.Implicit element member stated = not (is_message element || member || stated)
has_presence presences.Explicit element member stated =
    (is_message element || member || stated) && not (member && stated)
has_presence (presences.Repeated packed) element member stated = not (member || stated)
has_presence (presences.Map key) element member stated = not (member || stated) && is_key key

-- whether `packed` comes to this, where it is left out
abbrev pub stated_or : Option Bool → Bool → Bool
stated_or None default = default
stated_or (Some flag) default = flag

-- proto3 language specification, "Fields", and Encoding guide, "Packed Repeated Fields": a repeated field of a packable
-- element is packed unless `packed = false` is stated, and no other field is packed
abbrev pub is_packed : Presence → Element → Option Bool → Bool
is_packed (presences.Repeated packed) element stated =
    cond packed (stated_or stated (is_packable element)) (not (stated_or stated (is_packable element)))
    && (not packed || is_packable element)
is_packed presences.Implicit element stated = not (stated_or stated false)
is_packed presences.Explicit element stated = not (stated_or stated false)
is_packed (presences.Map key) element stated = not (stated_or stated false)

-- what the element names is one of that many message types and enums
abbrev pub is_known : (types enums : ℕ) → Element → Bool
is_known types enums (elements.Scalar s) = true
is_known types enums (elements.Enum e) = nat_lt e.index enums
is_known types enums (elements.Message t) = nat_lt t.index types

-- the oneof is one of that many
abbrev pub is_oneof : (oneofs : ℕ) → Option ℕ → Bool
is_oneof oneofs None = true
is_oneof oneofs (Some place) = nat_lt place oneofs
