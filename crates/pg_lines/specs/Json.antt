-- A line of an answer as JSON: an object without spaces, on a line of its own (RFC 8259).
use Rattle.std.specs.Prelude.{ℕ, ℤ, Bool, List, [], ◌∷◌, ◌++◌, ◌==◌, ◌||◌, nat_lt, if◌then◌else◌, Option, Some, None, option_map, codes, decimal, length, string_bytes}
use Rattle.std.specs.Borrow.{Bor}
use Rattle.std.specs.Fmt.{signed_decimal}
use Rattle.std.specs.List.{flat_map}
use Rattle.pg_link.specs.names.Names.{Text}
use Rattle.pg_link.specs.declared.error.Place.{Place}
use Rattle.pg_lines.specs.Line.{Cause, Line, backward, bound, breaks, cause, certificate, compatible, forward, name, note, reading, refused, shown, step, witness}
use Rattle.pg_lines.specs.Notes.{kind_word}
use Rattle.pg_lines.specs.Sentences.{sentence_of}
use Rattle.pg_lines.specs.Text.{byte_digits, digits_of, line_end, side_of}
use Rattle.pg_lines.specs.declared.note.PlacedNote.{PlacedNote}
use Rattle.pg_notes.specs.declared.note.Note.{Note}
use Rattle.pg_notes.specs.declared.note.Note.TheVariants as notes
use Rattle.pg_lines.specs.declared.step.NamedField.{NamedField}
use Rattle.pg_lines.specs.declared.step.Step.{Step}
use Rattle.pg_lines.specs.declared.side.Side.{Side}
use Rattle.pg_lines.specs.declared.json.Spot.{Spot as LentSpot}
use Rattle.pg_lines.specs.declared.line.Listed.{Listed}
use Rattle.pg_lines.specs.declared.line.Listed.TheVariants as listed
use Rattle.pg_lines.specs.declared.location.Location.{Location}
use Rattle.pg_lines.specs.declared.location.Location.TheVariants as location
use Rattle.pg_lines.specs.declared.refusal.Refusal.{Refusal}

-- ---- values

-- quotation marks, backslashes and control characters stand in a string by an escape alone (section 7)
abbrev pub needs_escape : ℕ → Bool
needs_escape byte = (byte == 34) || ((byte == 92) || nat_lt byte 32)

abbrev pub escape_of : ℕ → Text
escape_of byte =
    if byte == 34 then codes "\\\""
    else if byte == 92 then codes "\\\\"
    else if byte == 10 then codes "\\n"
    else if byte == 13 then codes "\\r"
    else if byte == 9 then codes "\\t"
    else if byte == 8 then codes "\\b"
    else if byte == 12 then codes "\\f"
    else codes "\\u00" ++ byte_digits byte

unfoldable pub in_string : ℕ → Text
in_string byte = if needs_escape byte then escape_of byte else byte ∷ []

abbrev pub escaped : Text → Text
escaped = flat_map in_string

-- a text as a string
unfoldable pub quoted : Text → Text
quoted text = codes "\"" ++ (escaped text ++ codes "\"")

-- a text as a string, where no byte of it needs an escape
unfoldable pub word : Text → Text
word text = codes "\"" ++ (text ++ codes "\"")

abbrev pub null : Text
null = codes "null"

unfoldable pub text_or_null : Option Text → Text
text_or_null (Some text) = quoted text
text_or_null None = null

unfoldable pub number_or_null : Option ℕ → Text
number_or_null (Some number) = decimal number
number_or_null None = null

-- ---- objects

-- a member of an object: its name, and its value as JSON
pub record Member : Type 0 where
  pub key : Text
  pub value : Text

abbrev pub member : Text → Text → Member
member key value = record { key = key; value = value }

-- a member, and what comes after it
abbrev pub member_before : Member → Text → Text
member_before m after = codes "\"" ++ (m.key ++ (codes "\":" ++ (m.value ++ after)))

-- the members after the first, each after a comma, and the end of the object
abbrev pub further_members : List Member → Text
further_members [] = codes "}"
further_members (m ∷ members) = codes "," ++ member_before m (further_members members)

abbrev pub object : List Member → Text
object [] = codes "{}"
object (m ∷ members) = codes "{" ++ member_before m (further_members members)

-- an object of a kind, which needs no escape
abbrev pub kind_object : Text → List Member → Text
kind_object kind members = codes "{\"kind\":\"" ++ (kind ++ (codes "\"" ++ further_members members))

-- ---- fields

-- a descriptor set has no positions in source files
abbrev pub place_members : Option Place → List Member
place_members (Some place) = member (codes "file") (quoted (string_bytes place.file))
    ∷ member (codes "line") (decimal place.line) ∷ member (codes "column") (decimal place.column) ∷ []
place_members None = member (codes "file") null ∷ member (codes "line") null ∷ member (codes "column") null ∷ []

unfoldable pub field_object : NamedField → Text
field_object field = object (member (codes "name") (quoted (string_bytes field.name)) ∷ place_members field.place)

-- a number, and its field as both types have it
abbrev pub step_members : Step → List Member
step_members s = member (codes "number") (decimal s.number) ∷ member (codes "old") (field_object s.old)
    ∷ member (codes "new") (field_object s.new) ∷ []

unfoldable pub step_object : Step → Text
step_object s = object (step_members s)

abbrev pub after_comma : Step → Text
after_comma s = codes "," ++ step_object s

-- an array of them
unfoldable pub steps_array : List Step → Text
steps_array [] = codes "[]"
steps_array (s ∷ steps) = codes "[" ++ (step_object s ++ (flat_map after_comma steps ++ codes "]"))

-- ---- sides and bytes

unfoldable pub side_string : Side → Text
side_string side = word (side_of side)

-- two digits for each byte
unfoldable pub hex_string : List ℕ → Text
hex_string bytes = word (digits_of bytes)

-- ---- refusals

-- where a fault is, part by part
pub record Spot : Type 0 where
  pub file : Option Text
  pub line : Option ℕ
  pub column : Option ℕ
  pub byte : Option ℕ
  pub old : Option Text
  pub new : Option Text
  pub number : Option ℕ
  pub case : Option ℕ

abbrev pub nowhere : Spot
nowhere = record {
  file = None;
  line = None;
  column = None;
  byte = None;
  old = None;
  new = None;
  number = None;
  case = None;
}

-- of a certificate, the pair of types and the choice between them
abbrev pub spot_of : Location → Spot
spot_of location.Nowhere = nowhere
spot_of (location.InPlace place) = record nowhere {
  file = Some (string_bytes place.file);
  line = Some place.line;
  column = Some place.column;
}
spot_of (location.InFile file) = record nowhere { file = Some (string_bytes file) }
spot_of (location.AtByte at) = record nowhere { byte = Some at }
spot_of (location.AtPair names) =
    record nowhere { old = Some (string_bytes names.old); new = Some (string_bytes names.new) }
spot_of (location.AtChoice names number case) = record nowhere {
  old = Some (string_bytes names.old);
  new = Some (string_bytes names.new);
  number = Some number;
  case = Some case;
}

-- the program's own spot, which lends what it holds
abbrev pub lent_text : Option (Bor Text) → Option Text
lent_text = option_map (λ text. text.now)

abbrev pub spot_in : LentSpot → Spot
spot_in s = record {
  file = lent_text s.file;
  line = s.line;
  column = s.column;
  byte = s.byte;
  old = lent_text s.old;
  new = lent_text s.new;
  number = s.number;
  case = s.case;
}

abbrev pub spot_members : Spot → List Member
spot_members s = member (codes "file") (text_or_null s.file) ∷ member (codes "line") (number_or_null s.line)
    ∷ member (codes "column") (number_or_null s.column) ∷ member (codes "byte") (number_or_null s.byte)
    ∷ member (codes "old") (text_or_null s.old) ∷ member (codes "new") (text_or_null s.new)
    ∷ member (codes "number") (number_or_null s.number) ∷ member (codes "case") (number_or_null s.case) ∷ []

unfoldable pub code_string : ℕ → Text
code_string code = codes "\"E" ++ (decimal code ++ codes "\"")

unfoldable pub side_or_null : Option Side → Text
side_or_null (Some side) = side_string side
side_or_null None = null

-- a refusal: what its words say, part by part, and the sentence of its code
abbrev pub refusal_members : Refusal → List Member
refusal_members r = member (codes "side") (side_or_null r.side) ∷ member (codes "code") (code_string r.code)
    ∷ (spot_members (spot_of r.location) ++ member (codes "says") (quoted (sentence_of r.code)) ∷ [])

-- ---- lines

-- The first of its fields has members of its own, and the others are an array.
abbrev pub cause_members : Cause → List Member
cause_members c = member (codes "why") (quoted c.why) ∷ member (codes "length") (decimal (length c.message))
    ∷ member (codes "message") (hex_string c.message) ∷ member (codes "number") (decimal c.field.number)
    ∷ member (codes "old") (field_object c.field.old) ∷ member (codes "new") (field_object c.field.new)
    ∷ member (codes "others") (steps_array c.others) ∷ []

unfoldable pub signed_or_null : Option ℤ → Text
signed_or_null (Some number) = signed_decimal number
signed_or_null None = null

unfoldable pub field_or_null : Option NamedField → Text
field_or_null (Some field) = field_object field
field_or_null None = null

-- of a name that a number lost, the number that has it now
abbrev pub now_of : Note → Option ℕ
now_of (notes.Renamed types number now) = now
now_of (notes.Moved types number now) = Some now
now_of other = None

abbrev pub note_members : PlacedNote → List Member
note_members n = member (codes "what") (word (kind_word n.note)) ∷ member (codes "number") (signed_or_null n.number)
    ∷ member (codes "old") (field_object n.old) ∷ member (codes "new") (field_or_null n.new)
    ∷ member (codes "now") (number_or_null (now_of n.note)) ∷ []

abbrev pub listed_kind : Listed → Text
listed_kind listed.Removed = codes "removed"
listed_kind listed.Added = codes "added"
listed_kind listed.Declared = codes "declared"

abbrev pub type_member : Text → Member
type_member type = member (codes "type") (quoted type)

abbrev pub length_member : ℕ → Member
length_member bytes = member (codes "length") (decimal bytes)

abbrev pub text_member : Text → Member
text_member text = member (codes "text") (quoted text)

abbrev pub kind_of : Line → Text
kind_of (compatible type) = codes "compatible"
kind_of (breaks type bytes) = codes "breaks"
kind_of (bound type bytes) = codes "bound"
kind_of (witness message) = codes "witness"
kind_of (step s) = codes "step"
kind_of forward = codes "forward"
kind_of backward = codes "backward"
kind_of (reading side text) = codes "reading"
kind_of (cause c) = codes "cause"
kind_of (name list type) = listed_kind list
kind_of (note n) = codes "note"
kind_of (certificate text) = codes "certificate"
kind_of (shown text) = codes "shown"
kind_of (refused r) = codes "refused"

abbrev pub members_of : Line → List Member
members_of (compatible type) = type_member type ∷ []
members_of (breaks type bytes) = type_member type ∷ length_member bytes ∷ []
members_of (bound type bytes) = type_member type ∷ length_member bytes ∷ []
members_of (witness message) = member (codes "message") (hex_string message) ∷ []
members_of (step s) = step_members s
members_of forward = []
members_of backward = []
members_of (reading side text) = member (codes "side") (side_string side) ∷ text_member text ∷ []
members_of (cause c) = cause_members c
members_of (name list type) = type_member type ∷ []
members_of (note n) = note_members n
members_of (certificate text) = text_member text ∷ []
members_of (shown text) = text_member text ∷ []
members_of (refused r) = refusal_members r

abbrev pub line_object : Line → Text
line_object line = kind_object (kind_of line) (members_of line)

abbrev pub json_of : Line → Text
json_of line = line_object line ++ line_end
