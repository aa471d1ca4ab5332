-- Worked examples: small types, their messages' bytes, and what a new type reads of them.
use Rattle.std.specs.Prelude.{◌≡◌, ℕ, pos, negsuc, true, false, List, [], ◌∷◌, Some, None, not}
use Rattle.std.specs.Ordering.{int_eq}
use Rattle.pg_schema.specs.declared.parts.field.TypeId.{TypeId}
use Rattle.pg_schema.specs.declared.parts.field.Scalar.{Scalar}
use Rattle.pg_schema.specs.declared.parts.field.Scalar.TheVariants.{Int32, Uint32, Fixed32, Sint32}
use Rattle.pg_schema.specs.declared.parts.field.Scalar.TheVariants as scalars
use Rattle.pg_schema.specs.declared.parts.field.Element.{Element}
use Rattle.pg_schema.specs.declared.parts.field.Element.TheVariants as elements
use Rattle.pg_schema.specs.declared.parts.field.Presence.{Presence}
use Rattle.pg_schema.specs.declared.parts.field.Presence.TheVariants.{Implicit, Explicit, Repeated, Map}
use Rattle.pg_schema.specs.Shape.{Shape, FieldShape}
use Rattle.pg_wire.specs.Records.{written}
use Rattle.pg_wire.specs.declared.record.WireType.TheVariants.{Len}
use Rattle.pg_dyn.specs.message.Message.{Leaf, Int, Bytes, Message, IsPlain, ends, holds, nests}
use Rattle.pg_dyn.specs.fitting.Belonging.{IsMessage}
use Rattle.pg_dyn.specs.encoding.Encoding.{enc}
use Rattle.pg_dyn.specs.reading.Decoding.{dec}
use Rattle.pg_dyn.specs.views.Comparison.{numbers}
use Rattle.pg_dyn.specs.views.Breaking.{is_kept, Breaks}

abbrev pub first : TypeId
first = record { index = 0 }

abbrev pub second : TypeId
second = record { index = 1 }

abbrev pub field : ℕ → Presence → Element → FieldShape
field number presence element = record { number = number; presence = presence; element = element; oneof = None }

abbrev pub scalar : ℕ → Presence → Scalar → FieldShape
scalar number presence s = field number presence (elements.Scalar s)

abbrev pub member : ℕ → Scalar → FieldShape
member number s = record { number = number; presence = Explicit; element = elements.Scalar s; oneof = Some 0 }

-- a schema of one type
abbrev pub of_fields : List FieldShape → Shape
of_fields fs = fs ∷ []

-- the message breaks, and the old type writes these bytes of it
pub record IsWitness (old new : Shape) (type : TypeId) (v : Message) (bytes : List ℕ) : Type 0 where
  pub written_as : enc old type v ≡ bytes
  pub breaks : Breaks numbers old new type type v

-- the message is a plain one of the old type, which writes these bytes of it, and the new type reads the same in them
pub record IsKeptAs (old new : Shape) (type : TypeId) (v : Message) (bytes : List ℕ) : Type 0 where
  pub is_message : IsMessage old type v
  pub is_plain : IsPlain v
  pub written_as : enc old type v ≡ bytes
  pub kept : is_kept numbers old new type type v ≡ true

-- bytes are read as a message, and this is written again
abbrev pub ReadsAs : Shape → List ℕ → Message → List ℕ → Type 0
ReadsAs shape bytes m again = (dec shape first bytes ≡ Some m) × (enc shape first m ≡ again)

-- a message of one part, of field 1
abbrev pub one : Leaf → Message
one leaf = holds 1 None leaf (ends [])

abbrev pub two : Leaf → Leaf → Message
two a b = holds 1 None a (holds 1 None b (ends []))

-- int32 to uint32: the number -1
abbrev pub Int32ToUint32 : Type 0
Int32ToUint32 =
    IsWitness (of_fields (scalar 1 Implicit Int32 ∷ [])) (of_fields (scalar 1 Implicit Uint32 ∷ [])) first (one (Int (negsuc 0)))
    (8 ∷ 255 ∷ 255 ∷ 255 ∷ 255 ∷ 255 ∷ 255 ∷ 255 ∷ 255 ∷ 255 ∷ 1 ∷ [])

-- uint32 to int32: the number 2 ^ 31
abbrev pub Uint32ToInt32 : Type 0
Uint32ToInt32 =
    IsWitness (of_fields (scalar 1 Implicit Uint32 ∷ [])) (of_fields (scalar 1 Implicit Int32 ∷ [])) first (one (Int (pos 2147483648)))
    (8 ∷ 128 ∷ 128 ∷ 128 ∷ 128 ∷ 8 ∷ [])

-- int32 to bool: the number 2
abbrev pub Int32ToBool : Type 0
Int32ToBool =
    IsWitness (of_fields (scalar 1 Implicit Int32 ∷ [])) (of_fields (scalar 1 Implicit scalars.Bool ∷ [])) first (one (Int (pos 2))) (8 ∷ 2 ∷ [])

-- optional string to string: the empty string isn't shown
abbrev pub OptionalTextToText : Type 0
OptionalTextToText =
    IsKeptAs (of_fields (scalar 1 Explicit scalars.String ∷ [])) (of_fields (scalar 1 Implicit scalars.String ∷ [])) first (one (Bytes [])) (10 ∷ 0 ∷ [])

-- optional string to optional message: the empty string
abbrev pub OptionalTextToMessage : Type 0
OptionalTextToMessage =
    IsWitness (of_fields (scalar 1 Explicit scalars.String ∷ [])) (of_fields (field 1 Explicit (elements.Message first) ∷ [])) first (one (Bytes [])) (10 ∷ 0 ∷ [])

-- bytes to string: a byte that isn't UTF-8
abbrev pub BytesToText : Type 0
BytesToText =
    IsWitness (of_fields (scalar 1 Implicit scalars.Bytes ∷ [])) (of_fields (scalar 1 Implicit scalars.String ∷ [])) first (one (Bytes (128 ∷ [])))
    (10 ∷ 1 ∷ 128 ∷ [])

-- repeated string to optional string: two strings
abbrev pub TextsToOptionalText : Type 0
TextsToOptionalText =
    IsWitness (of_fields (scalar 1 (Repeated false) scalars.String ∷ [])) (of_fields (scalar 1 Explicit scalars.String ∷ [])) first
    (two (Bytes []) (Bytes [])) (10 ∷ 0 ∷ 10 ∷ 0 ∷ [])

-- repeated string to string: one empty string
abbrev pub TextsToText : Type 0
TextsToText =
    IsWitness (of_fields (scalar 1 (Repeated false) scalars.String ∷ [])) (of_fields (scalar 1 Implicit scalars.String ∷ [])) first (one (Bytes [])) (10 ∷ 0 ∷ [])

-- packed int32 to optional int32: one zero
abbrev pub PackedToOptional : Type 0
PackedToOptional =
    IsWitness (of_fields (scalar 1 (Repeated true) Int32 ∷ [])) (of_fields (scalar 1 Explicit Int32 ∷ [])) first (one (Int (pos 0)))
    (10 ∷ 1 ∷ 0 ∷ [])

-- unpacked: two zeros
abbrev pub UnpackedToOptional : Type 0
UnpackedToOptional =
    IsWitness (of_fields (scalar 1 (Repeated false) Int32 ∷ [])) (of_fields (scalar 1 Explicit Int32 ∷ [])) first
    (two (Int (pos 0)) (Int (pos 0))) (8 ∷ 0 ∷ 8 ∷ 0 ∷ [])

-- a type beside itself: a number
abbrev pub SameType : Type 0
SameType =
    IsKeptAs (of_fields (scalar 1 Implicit Int32 ∷ [])) (of_fields (scalar 1 Implicit Int32 ∷ [])) first (one (Int (negsuc 0)))
    (8 ∷ 255 ∷ 255 ∷ 255 ∷ 255 ∷ 255 ∷ 255 ∷ 255 ∷ 255 ∷ 255 ∷ 1 ∷ [])

-- a oneof beside itself: a member that is zero
abbrev pub SameOneof : Type 0
SameOneof =
    IsKeptAs (of_fields (member 1 Int32 ∷ member 2 Int32 ∷ [])) (of_fields (member 1 Int32 ∷ member 2 Int32 ∷ [])) first
    (holds 2 None (Int (pos 0)) (ends [])) (16 ∷ 0 ∷ [])

-- two fields come into one oneof
abbrev pub TwoIntoOneOneof : Type 0
TwoIntoOneOneof =
    IsWitness (of_fields (scalar 1 Implicit Int32 ∷ scalar 2 Implicit Int32 ∷ [])) (of_fields (member 1 Int32 ∷ member 2 Int32 ∷ [])) first
    (holds 1 None (Int (pos 1)) (holds 2 None (Int (pos 1)) (ends []))) (8 ∷ 1 ∷ 16 ∷ 1 ∷ [])

-- from optional fields: two zeros
abbrev pub TwoOptionalIntoOneOneof : Type 0
TwoOptionalIntoOneOneof =
    IsWitness (of_fields (scalar 1 Explicit Int32 ∷ scalar 2 Explicit Int32 ∷ [])) (of_fields (member 1 Int32 ∷ member 2 Int32 ∷ [])) first
    (holds 1 None (Int (pos 0)) (holds 2 None (Int (pos 0)) (ends []))) (8 ∷ 0 ∷ 16 ∷ 0 ∷ [])

-- a child breaks
abbrev pub linked : Scalar → Shape
linked s =
    (scalar 1 Implicit s ∷ []) ∷ (field 1 Explicit (elements.Message second) ∷ field 2 Explicit (elements.Message first) ∷ []) ∷ []

abbrev pub ChildBreaks : Type 0
ChildBreaks =
    IsWitness (linked Uint32) (linked Int32) second (nests 2 None (one (Int (pos 2147483648))) (ends []))
    (18 ∷ 6 ∷ 8 ∷ 128 ∷ 128 ∷ 128 ∷ 128 ∷ 8 ∷ [])

-- of two gaps the cheaper: int32 to bool at number 16
abbrev pub GapAtNumber16 : Type 0
GapAtNumber16 =
    IsWitness (of_fields (scalar 1 Implicit Uint32 ∷ scalar 16 Implicit Int32 ∷ []))
    (of_fields (scalar 1 Implicit Int32 ∷ scalar 16 Implicit scalars.Bool ∷ [])) first (holds 16 None (Int (pos 2)) (ends [])) (128 ∷ 1 ∷ 2 ∷ [])

-- bool to sint32 beside fields that lead back to the type itself
abbrev pub tree_with : Scalar → Shape
tree_with s =
    of_fields (field 1 Explicit (elements.Message first) ∷ field 2 (Repeated false) (elements.Message first) ∷ scalar 3 Implicit s ∷ [])

abbrev pub BoolToSint32 : Type 0
BoolToSint32 = IsWitness (tree_with scalars.Bool) (tree_with Sint32) first (holds 3 None (Int (pos 1)) (ends [])) (24 ∷ 1 ∷ [])

-- a type of trees beside itself: a tree of two nodes
abbrev pub tree : Shape
tree = of_fields (field 1 Explicit (elements.Message first) ∷ field 2 (Repeated false) (elements.Message first) ∷ [])

abbrev pub SameTree : Type 0
SameTree = IsKeptAs tree tree first (nests 2 None (nests 1 None (ends []) (ends [])) (ends [])) (18 ∷ 2 ∷ 10 ∷ 0 ∷ [])

-- the greatest number of a field
abbrev pub GapAtTheGreatestNumber : Type 0
GapAtTheGreatestNumber =
    IsWitness (of_fields (scalar 536870911 Implicit Int32 ∷ [])) (of_fields (scalar 536870911 Implicit scalars.Bool ∷ [])) first
    (holds 536870911 None (Int (pos 2)) (ends [])) (248 ∷ 255 ∷ 255 ∷ 255 ∷ 15 ∷ 2 ∷ [])

abbrev pub map_to : Scalar → Scalar → Shape
map_to key value = of_fields (scalar 1 (Map key) value ∷ [])

-- a map's key
abbrev pub MapKeyToInt32 : Type 0
MapKeyToInt32 =
    IsWitness (map_to Uint32 scalars.String) (map_to Int32 scalars.String) first (holds 1 (Some (Int (pos 2147483648))) (Bytes []) (ends []))
    (10 ∷ 8 ∷ 8 ∷ 128 ∷ 128 ∷ 128 ∷ 128 ∷ 8 ∷ 18 ∷ 0 ∷ [])

-- a map's key whose record isn't accepted: the key 1 is lost
abbrev pub MapKeyIsNotAccepted : Type 0
MapKeyIsNotAccepted =
    IsWitness (map_to Int32 scalars.Bool) (map_to Fixed32 scalars.Bool) first (holds 1 (Some (Int (pos 1))) (Int (pos 0)) (ends []))
    (10 ∷ 4 ∷ 8 ∷ 1 ∷ 16 ∷ 0 ∷ [])

-- a field that the new type lacks comes back among the unknown records
abbrev pub LackedFieldComesBack : Type 0
LackedFieldComesBack =
    IsKeptAs (of_fields (scalar 1 Implicit Int32 ∷ scalar 2 Implicit scalars.String ∷ [])) (of_fields (scalar 1 Implicit Int32 ∷ [])) first
    (holds 1 None (Int (pos 5)) (holds 2 None (Bytes (120 ∷ [])) (ends []))) (8 ∷ 5 ∷ 18 ∷ 1 ∷ 120 ∷ [])

abbrev pub int32 : Shape
int32 = of_fields (scalar 1 Implicit Int32 ∷ [])

-- an unknown record stays, an implicit zero doesn't
abbrev pub UnknownStaysZeroGoes : Type 0
UnknownStaysZeroGoes =
    ReadsAs int32 (8 ∷ 5 ∷ 18 ∷ 1 ∷ 120 ∷ []) (holds 1 None (Int (pos 5)) (ends (written 2 Len (120 ∷ []) ∷ []))) (8 ∷ 5 ∷ 18 ∷ 1 ∷ 120 ∷ [])
    × ReadsAs int32 (8 ∷ 0 ∷ []) (ends []) []

-- packed and unpacked records are taken alike
abbrev pub PackedAndUnpackedAreAlike : Type 0
PackedAndUnpackedAreAlike =
    ReadsAs (of_fields (scalar 1 (Repeated true) Int32 ∷ [])) (8 ∷ 1 ∷ 10 ∷ 2 ∷ 2 ∷ 3 ∷ 8 ∷ 4 ∷ [])
    (holds 1 None (Int (pos 1)) (holds 1 None (Int (pos 2)) (holds 1 None (Int (pos 3)) (holds 1 None (Int (pos 4)) (ends [])))))
    (10 ∷ 4 ∷ 1 ∷ 2 ∷ 3 ∷ 4 ∷ [])

-- two records of a singular message are merged
abbrev pub ChildRecordsAreMerged : Type 0
ChildRecordsAreMerged =
    ReadsAs (of_fields (field 1 Explicit (elements.Message first) ∷ scalar 2 Implicit Int32 ∷ [])) (10 ∷ 2 ∷ 16 ∷ 5 ∷ 10 ∷ 0 ∷ [])
    (nests 1 None (holds 2 None (Int (pos 5)) (ends [])) (ends [])) (10 ∷ 2 ∷ 16 ∷ 5 ∷ [])

-- of two entries of one key the later counts; missing parts are defaults
abbrev pub LaterEntryCounts : Type 0
LaterEntryCounts =
    ReadsAs (map_to Int32 Int32) (10 ∷ 4 ∷ 8 ∷ 1 ∷ 16 ∷ 2 ∷ 10 ∷ 4 ∷ 8 ∷ 1 ∷ 16 ∷ 3 ∷ []) (holds 1 (Some (Int (pos 1))) (Int (pos 3)) (ends []))
    (10 ∷ 4 ∷ 8 ∷ 1 ∷ 16 ∷ 3 ∷ [])
    × ReadsAs (map_to Int32 Int32) (10 ∷ 0 ∷ []) (holds 1 (Some (Int (pos 0))) (Int (pos 0)) (ends [])) (10 ∷ 4 ∷ 8 ∷ 0 ∷ 16 ∷ 0 ∷ [])

-- the later member of a oneof counts
abbrev pub LaterMemberCounts : Type 0
LaterMemberCounts =
    ReadsAs (of_fields (member 1 Int32 ∷ member 2 Int32 ∷ [])) (8 ∷ 1 ∷ 16 ∷ 2 ∷ []) (holds 2 None (Int (pos 2)) (ends [])) (16 ∷ 2 ∷ [])

-- Under a view in which the number 1 isn't alike in two enums its message isn't kept; where every number is alike it is.
abbrev pub ViewTellsNumbersApart : Type 0
ViewTellsNumbersApart =
    let shape = of_fields (field 1 Implicit (elements.Enum (record { index = 0 })) ∷ []) in
    (is_kept (λ old new n. not (int_eq n (pos 1))) shape shape first first (one (Int (pos 1))) ≡ false)
    × (is_kept numbers shape shape first first (one (Int (pos 1))) ≡ true)

pub record WorkedExamples : Type 0 where
  pub int32_to_uint32 : Int32ToUint32
  pub uint32_to_int32 : Uint32ToInt32
  pub int32_to_bool : Int32ToBool
  pub same_type : SameType
  pub same_oneof : SameOneof
  pub same_tree : SameTree
  pub optional_text_to_text : OptionalTextToText
  pub optional_text_to_message : OptionalTextToMessage
  pub bytes_to_text : BytesToText
  pub texts_to_optional_text : TextsToOptionalText
  pub texts_to_text : TextsToText
  pub packed_to_optional : PackedToOptional
  pub unpacked_to_optional : UnpackedToOptional
  pub two_into_one_oneof : TwoIntoOneOneof
  pub two_optional_into_one_oneof : TwoOptionalIntoOneOneof
  pub child_breaks : ChildBreaks
  pub bool_to_sint32 : BoolToSint32
  pub gap_at_number_16 : GapAtNumber16
  pub gap_at_the_greatest_number : GapAtTheGreatestNumber
  pub map_key_to_int32 : MapKeyToInt32
  pub map_key_is_not_accepted : MapKeyIsNotAccepted
  pub lacked_field_comes_back : LackedFieldComesBack
  pub unknown_stays_zero_goes : UnknownStaysZeroGoes
  pub packed_and_unpacked_are_alike : PackedAndUnpackedAreAlike
  pub child_records_are_merged : ChildRecordsAreMerged
  pub later_entry_counts : LaterEntryCounts
  pub later_member_counts : LaterMemberCounts
  pub view_tells_numbers_apart : ViewTellsNumbersApart
