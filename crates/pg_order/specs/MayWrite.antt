-- The bytes that a writer may write of a message (Encoding guide, "Message Structure", "Maps": neither the order of fields nor
-- that of a map's entries is promised). Each record is as the encoding has it, and the elements of a list stay in order.
use Rattle.std.specs.Prelude.{◌≡◌, ℕ, List, [], ◌∷◌, ◌++◌, filter, nat_eq, Bool, false, Option, Some, None, IsPermutation}
use Rattle.pg_schema.specs.declared.parts.field.TypeId.{TypeId}
use Rattle.pg_schema.specs.Shape.{Shape, FieldShape, fields, field_at, is_map}
use Rattle.pg_wire.specs.Records.{WireRecord}
use Rattle.pg_dyn.specs.message.Message.{Leaf, Bytes, Message, ends, holds, nests, Part, unknown_of}
use Rattle.pg_dyn.specs.reading.Content.{is_unknown}
use Rattle.pg_dyn.specs.encoding.Writing.{records_in, bytes_of}
use Rattle.pg_dyn.specs.encoding.Encoding.{child_type}

-- whether the field of that number is a map
abbrev pub is_map_at : List FieldShape → ℕ → Bool
is_map_at fs number = of (field_at fs number)
  where
    of : Option FieldShape → Bool
    of (Some f) = is_map f.presence
    of None = false

-- whether the record has that number
abbrev pub has_number : ℕ → WireRecord → Bool
has_number number r = nat_eq r.number number

-- The same records in another order: those of one number, if it isn't a map's, and the unknown ones follow one another as before.
pub record IsReordered (fs : List FieldShape) (old new : List WireRecord) : Type 0 where
  pub same : IsPermutation old new
  pub in_order : (number : ℕ) → is_map_at fs number ≡ false → filter (has_number number) new ≡ filter (has_number number) old
  pub unknown : filter (is_unknown fs) new ≡ filter (is_unknown fs) old

-- The bytes are the records of such parts, and the unknown ones, in some order.
pub record IsWrittenOf (fs : List FieldShape) (AreParts : List (Part Leaf) → Type 0) (unknown : List WireRecord) (bytes : List ℕ) : Type 0 where
  pub parts : List (Part Leaf)
  pub are_parts : AreParts parts
  pub records : List WireRecord
  pub reordered : IsReordered fs (records_in fs parts ++ unknown) records
  pub bytes_are : bytes ≡ bytes_of records

-- The parts of the message, with bytes in the place of each child that may be written of it.
abbrev pub MayBeParts : Shape → TypeId → Message → List (Part Leaf) → Type 0
MayBeParts shape type (ends unknown) ps = ps ≡ []
MayBeParts shape type (holds number key leaf later) ps =
    (qs : List (Part Leaf)) × (ps ≡ record { number = number; key = key; item = leaf } ∷ qs) × MayBeParts shape type later qs
MayBeParts shape type (nests number key child later) ps =
    let of = child_type (fields shape type) number in
    (qs : List (Part Leaf)) × (bytes : List ℕ) × (ps ≡ record { number = number; key = key; item = Bytes bytes } ∷ qs)
    × IsWrittenOf (fields shape of) (MayBeParts shape of child) (unknown_of child) bytes × MayBeParts shape type later qs

-- The bytes may be written of the message.
abbrev pub MayWrite : Shape → TypeId → Message → List ℕ → Type 0
MayWrite shape type m bytes = IsWrittenOf (fields shape type) (MayBeParts shape type m) (unknown_of m) bytes
