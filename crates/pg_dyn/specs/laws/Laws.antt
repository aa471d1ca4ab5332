-- The laws of encoding and decoding; their choice is this profile's.
use Rattle.std.specs.Prelude.{◌≡◌, ◌≢◌, ℕ, ◌≤◌, List, [], ◌++◌, filter, Bool, nat_eq, length, Some, None, option_and_then, Ok, ◌↔◌, false, true, ◌⊎◌}
use Rattle.pg_schema.specs.declared.parts.field.TypeId.{TypeId}
use Rattle.pg_schema.specs.Shape.{Shape, FieldShape, fields, field_at}
use Rattle.pg_schema.specs.ShapeRules.{IsShape, Rising}
use Rattle.pg_wire.specs.Records.{WireRecord, records_of}
use Rattle.pg_dyn.specs.message.Message.{Leaf, Message, Part, parts, unknown_of, only, is_of, IsPlain}
use Rattle.pg_dyn.specs.reading.Content.{is_sibling, is_unknown, option_from}
use Rattle.pg_dyn.specs.encoding.Writing.{field_records, records_in}
use Rattle.pg_dyn.specs.encoding.Encoding.{encoded_parts, enc, cap}
use Rattle.pg_dyn.specs.reading.Decoding.{Reader, field_parts, read_records, dec, all_readable}
use Rattle.pg_dyn.specs.reading.Faults.{Code, TooDeep, FirstFault}
use Rattle.pg_dyn.specs.fitting.Belonging.{IsMessage}
use Rattle.pg_dyn.specs.views.Comparison.{View, numbers, same_content, expected}
use Rattle.pg_dyn.specs.views.Breaking.{is_kept, Compatible}

abbrev pub of_number : ℕ → WireRecord → Bool
of_number n r = nat_eq r.number n

-- The records that are written with a number are those of its field's content.
abbrev pub WritingSplits : Type 0
WritingSplits =
    (fs : List FieldShape) (ps : List (Part Leaf)) (n : ℕ) → Rising fs →
    ((f : FieldShape) → field_at fs n ≡ Some f → filter (of_number n) (records_in fs ps) ≡ field_records f (filter (is_of n) ps))
    × (field_at fs n ≡ None → filter (of_number n) (records_in fs ps) ≡ [])

-- What bytes are read as splits by field number: the parts of each field are read from the records that count for it, the unknown
-- records are those that no field accepts, there are no other parts, and each accepted record has a reading.
abbrev pub MessageSplits : Type 0
MessageSplits =
    (child : Reader) (fs : List FieldShape) (rs : List WireRecord) (m : Message) → Rising fs → read_records child fs rs ≡ Some m →
    ((n : ℕ) (f : FieldShape) → field_at fs n ≡ Some f → field_parts child fs rs f ≡ Some (filter (is_of n) (parts m)))
    × ((n : ℕ) → field_at fs n ≡ None → filter (is_of n) (parts m) ≡ [])
    × (unknown_of m ≡ filter (is_unknown fs) rs)
    × (all_readable child fs rs ≡ true)

-- The message of bytes is that of their records, with the bytes of each child read likewise.
abbrev pub DecodingIs : Type 0
DecodingIs =
    (shape : Shape) (type : TypeId) (bytes : List ℕ) →
    dec shape type bytes ≡ option_and_then (read_records (dec shape) (fields shape type)) (option_from (records_of bytes))

-- Bytes whose first fault isn't a message too deep have no reading.
abbrev pub FaultsAreReal : Type 0
FaultsAreReal =
    (shape : Shape) (type : TypeId) (limit : ℕ) (bytes : List ℕ) (code : Code) (place : ℕ) → FirstFault shape limit (fields shape type) bytes code place →
    code ≢ TooDeep → dec shape type bytes ≡ None

-- The records of an encoding are those of the fields' contents, and then the unknown ones.
abbrev pub EncodingSpells : Type 0
EncodingSpells =
    (shape : Shape) (type : TypeId) (m : Message) → IsShape shape → IsMessage shape type m → length (enc shape type m) ≤ cap →
    records_of (enc shape type m) ≡ Ok (records_in (fields shape type) (encoded_parts shape type m) ++ unknown_of m)

-- What a type writes of its message it reads again.
abbrev pub ReadsAgain : Type 0
ReadsAgain =
    (shape : Shape) (type : TypeId) (m : Message) → IsShape shape → IsMessage shape type m → length (enc shape type m) ≤ cap →
    dec shape type (enc shape type m) ≡ Some m

-- A type is compatible with itself.
abbrev pub SelfCompatible : Type 0
SelfCompatible = (shape : Shape) (type : TypeId) → IsShape shape → Compatible numbers shape shape type type

-- each shared field shows the same
abbrev pub SharedSame : View → Shape → Shape → TypeId → TypeId → Message → Message → Type 0
SharedSame view old new a b v w =
    (n : ℕ) (f g : FieldShape) → field_at (fields old a) n ≡ Some f → field_at (fields new b) n ≡ Some g →
    same_content view f g (expected view old new a b v) (parts w) ≡ true

abbrev pub IsKeptByField : View → Shape → Shape → TypeId → TypeId → Message → Type 0
IsKeptByField view old new a b v = (w : Message) × (dec new b (enc old a v) ≡ Some w) × SharedSame view old new a b v w

-- A plain message is kept exactly where it is read and each shared field shows the same: what the new type lacks always comes back.
abbrev pub KeptByField : Type 0
KeptByField =
    (view : View) (old new : Shape) (a b : TypeId) (v : Message) → IsShape old → IsShape new → IsMessage old a v → IsPlain v →
    length (enc old a v) ≤ cap → (is_kept view old new a b v ≡ true) ↔ IsKeptByField view old new a b v

-- no two fields of the new type with parts in the message are members of one oneof
abbrev pub NoneMeet : List FieldShape → Message → Type 0
NoneMeet gs v =
    (m n : ℕ) (f g : FieldShape) → field_at gs m ≡ Some f → field_at gs n ≡ Some g → (filter (is_of m) (parts v) ≡ [] → ⊥) →
    (filter (is_of n) (parts v) ≡ [] → ⊥) → is_sibling f g ≡ false

-- a field of the old type that alone isn't kept
pub record BreaksAlone (view : View) (old new : Shape) (a b : TypeId) (v : Message) : Type 0 where
  pub field : FieldShape
  pub found : field_at (fields old a) field.number ≡ Some field
  pub not_kept : is_kept view old new a b (only field.number v) ≡ false

-- two fields of the new type, members of one oneof, with parts in the message
pub record Meet (gs : List FieldShape) (v : Message) : Type 0 where
  pub first : FieldShape
  pub second : FieldShape
  pub first_found : field_at gs first.number ≡ Some first
  pub second_found : field_at gs second.number ≡ Some second
  pub siblings : is_sibling first second ≡ true
  pub first_some : filter (is_of first.number) (parts v) ≡ [] → ⊥
  pub second_some : filter (is_of second.number) (parts v) ≡ [] → ⊥

-- A message that isn't kept has a field that alone isn't, or two fields that meet in one oneof of the new type.
abbrev pub BreaksSomewhere : Type 0
BreaksSomewhere =
    (view : View) (old new : Shape) (a b : TypeId) (v : Message) → IsShape old → IsShape new → IsMessage old a v → IsPlain v →
    length (enc old a v) ≤ cap → is_kept view old new a b v ≡ false → BreaksAlone view old new a b v ⊎ Meet (fields new b) v
