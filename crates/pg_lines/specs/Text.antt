-- The words of bytes, positions and refusals.
use Rattle.std.specs.Prelude.{ℕ, List, [], ◌∷◌, ◌++◌, ◌/◌, ◌%◌, Option, Some, None, false, codes, decimal}
use Rattle.std.specs.Prelude.{string_bytes}
use Rattle.std.specs.Fmt.{digits}
use Rattle.std.specs.List.{flat_map}
use Rattle.pg_link.specs.names.Names.{Text}
use Rattle.pg_link.specs.declared.error.Place.{Place}
use Rattle.pg_lines.specs.declared.side.Side.{Side}
use Rattle.pg_lines.specs.declared.side.Side.TheVariants as side
use Rattle.pg_lines.specs.declared.location.Location.{Location}
use Rattle.pg_lines.specs.declared.location.Location.TheVariants as location
use Rattle.pg_lines.specs.declared.refusal.Refusal.{Refusal}
use Rattle.pg_lines.specs.declared.step.NamedField.{NamedField}

-- the end of a line
abbrev pub line_end : Text
line_end = 10 ∷ []

-- ---- bytes

-- a byte as two hexadecimal digits
abbrev pub byte_digits : ℕ → Text
byte_digits byte = digits 16 false (byte / 16) ++ digits 16 false (byte % 16)

abbrev pub digits_of : List ℕ → Text
digits_of bytes = flat_map byte_digits bytes

-- no bytes are printed as `-`
abbrev pub hex_of : List ℕ → Text
hex_of [] = codes "-"
hex_of (byte ∷ bytes) = digits_of (byte ∷ bytes)

-- ---- positions and steps

-- `FILE:LINE:COLUMN`
abbrev pub place_of : Place → Text
place_of place = string_bytes place.file ++ (codes ":" ++ (decimal place.line
    ++ (codes ":" ++ decimal place.column)))

-- a descriptor set has no positions in source files
abbrev pub place_or_dash : Option Place → Text
place_or_dash (Some place) = place_of place
place_or_dash None = codes "-"

abbrev pub field_of : NamedField → Text
field_of field = string_bytes field.name ++ (codes " " ++ place_or_dash field.place)

-- ---- refusals

abbrev pub side_of : Side → Text
side_of side.Old = codes "old"
side_of side.New = codes "new"

abbrev pub side_before : Option Side → Text
side_before (Some s) = side_of s ++ codes " "
side_before None = []

-- a file's name, where it isn't empty
abbrev pub after_space : Text → Text
after_space [] = []
after_space (byte ∷ bytes) = codes " " ++ (byte ∷ bytes)

abbrev pub location_of : Location → Text
location_of location.Nowhere = []
location_of (location.InPlace place) = codes " " ++ place_of place
location_of (location.InFile file) = after_space (string_bytes file)
location_of (location.AtByte at) = codes " at " ++ decimal at
location_of (location.AtPair names) = codes " " ++ (string_bytes names.old ++ (codes " " ++ string_bytes names.new))
location_of (location.AtChoice names number case) =
    codes " " ++ (string_bytes names.old ++ (codes " " ++ (string_bytes names.new ++ (codes " " ++ (decimal number
    ++ (codes " " ++ decimal case))))))

-- `refused CODE`, and then where the fault is
abbrev pub refusal_of : Refusal → Text
refusal_of refusal = codes "refused " ++ (side_before refusal.side ++ (codes "E"
    ++ (decimal refusal.code ++ (location_of refusal.location ++ line_end))))
