-- Worked examples: small messages, bytes that may be written of them and that may not, and what a new type makes of
-- them.
use Rattle.std.specs.Prelude.{◌≡◌, ◌≤◌, ℕ, pos, List, [], ◌∷◌, length, true, false, Some, None}
use Rattle.pg_schema.specs.declared.parts.field.TypeId.{TypeId}
use Rattle.pg_schema.specs.declared.parts.field.Scalar.TheVariants.{Bool, Int32, Int64}
use Rattle.pg_schema.specs.declared.parts.field.Element.TheVariants as elements
use Rattle.pg_schema.specs.declared.parts.field.Presence.TheVariants.{Implicit, Explicit, Repeated, Map}
use Rattle.pg_schema.specs.Shape.{Shape, fields}
use Rattle.pg_wire.specs.declared.record.WireType.TheVariants.{Varint}
use Rattle.pg_wire.specs.Records.{WireRecord, written}
use Rattle.pg_dyn.specs.message.Message.{Int, Message, ends, holds, nests}
use Rattle.pg_dyn.specs.encoding.Encoding.{enc}
use Rattle.pg_dyn.specs.reading.Decoding.{dec}
use Rattle.pg_dyn.specs.views.Comparison.{numbers}
use Rattle.pg_dyn.specs.views.Breaking.{Breaks, Compatible}
use Rattle.pg_dyn.specs.laws.Examples.{first, second, scalar, field, of_fields, two}
use Rattle.pg_order.specs.MayWrite.{MayWrite}
use Rattle.pg_order.specs.Sees.{IsSeen, gives_back, seen_parts, sees}

-- the bytes may be written of the message, and are read as it
pub record IsOrder (shape : Shape) (type : TypeId) (m : Message) (bytes : List ℕ) : Type 0 where
  pub may_write : MayWrite shape type m bytes
  pub is_read : dec shape type bytes ≡ Some m

-- a map with two entries, the greater key first
abbrev pub entries : Message
entries = holds 1 (Some (Int (pos 1))) (Int (pos 3)) (holds 1 (Some (Int (pos 2))) (Int (pos 4)) (ends []))

abbrev pub EntriesExchanged : Type 0
EntriesExchanged =
    IsOrder (of_fields (scalar 1 (Map Int32) Int32 ∷ [])) first entries (10 ∷ 4 ∷ 8 ∷ 2 ∷ 16 ∷ 4 ∷ 10 ∷ 4 ∷ 8 ∷ 1 ∷ 16 ∷ 3 ∷ [])

-- two fields, the greater number first
abbrev pub pair : Message
pair = holds 1 None (Int (pos 3)) (holds 2 None (Int (pos 4)) (ends []))

abbrev pub FieldsExchanged : Type 0
FieldsExchanged =
    IsOrder (of_fields (scalar 1 Implicit Int32 ∷ scalar 2 Implicit Int32 ∷ [])) first pair (16 ∷ 4 ∷ 8 ∷ 3 ∷ [])

-- a message inside, whose fields are exchanged
abbrev pub FieldsInsideExchanged : Type 0
FieldsInsideExchanged =
    IsOrder ((scalar 1 Implicit Int32 ∷ scalar 2 Implicit Int32 ∷ []) ∷ (field 1 Explicit (elements.Message first) ∷ []) ∷ [])
    second (nests 1 None pair (ends [])) (10 ∷ 4 ∷ 16 ∷ 4 ∷ 8 ∷ 3 ∷ [])

-- a list that isn't packed, with another field between its elements
abbrev pub ListParted : Type 0
ListParted =
    IsOrder (of_fields (scalar 1 (Repeated false) Int32 ∷ scalar 2 Implicit Int32 ∷ [])) first
    (holds 1 None (Int (pos 3)) (holds 1 None (Int (pos 4)) (holds 2 None (Int (pos 5)) (ends [])))) (8 ∷ 3 ∷ 16 ∷ 5 ∷ 8 ∷ 4 ∷ [])

-- the elements of a list may not be exchanged
abbrev pub ListNotExchanged : Type 0
ListNotExchanged =
    MayWrite (of_fields (scalar 1 (Repeated false) Int32 ∷ [])) first (two (Int (pos 3)) (Int (pos 4))) (8 ∷ 4 ∷ 8 ∷ 3 ∷ []) → ⊥

-- the record of a number below 128
abbrev pub rest : ℕ → ℕ → WireRecord
rest number n = written number Varint (n ∷ [])

-- nor may records that the type doesn't know
abbrev pub UnknownNotExchanged : Type 0
UnknownNotExchanged = MayWrite (of_fields []) first (ends (rest 1 3 ∷ rest 2 4 ∷ [])) (16 ∷ 4 ∷ 8 ∷ 3 ∷ []) → ⊥

-- the bytes may be written of the message; the new type reads them so, and that is the whole message
pub record IsSeenAs (old new : Shape) (type : TypeId) (m : Message) (bytes : List ℕ) (read : Message) : Type 0 where
  pub may_write : MayWrite old type m bytes
  pub is_read : dec new type bytes ≡ Some read
  pub seen : IsSeen numbers old new type type m bytes may_write

-- three fields, of which the new type has the first: the others come back in the order of the bytes
abbrev pub triple : Message
triple = holds 1 None (Int (pos 3)) (holds 2 None (Int (pos 4)) (holds 3 None (Int (pos 5)) (ends [])))

abbrev pub RestInOrder : Type 0
RestInOrder =
    IsSeenAs (of_fields (scalar 1 Implicit Int32 ∷ scalar 2 Implicit Int32 ∷ scalar 3 Implicit Int32 ∷ []))
    (of_fields (scalar 1 Implicit Int64 ∷ [])) first triple (24 ∷ 5 ∷ 8 ∷ 3 ∷ 16 ∷ 4 ∷ [])
    (holds 1 None (Int (pos 3)) (ends (rest 3 5 ∷ rest 2 4 ∷ [])))

-- in another order they would not be given back, nor if one were missing
abbrev pub gives_rest : List WireRecord → Type 0
gives_rest rs =
    gives_back (scalar 1 Implicit Int64 ∷ []) (24 ∷ 5 ∷ 8 ∷ 3 ∷ 16 ∷ 4 ∷ []) (holds 1 None (Int (pos 3)) (ends rs)) ≡ true

abbrev pub OtherRestIsNone : Type 0
OtherRestIsNone = (gives_rest (rest 2 4 ∷ rest 3 5 ∷ []) → ⊥) × (gives_rest (rest 3 5 ∷ []) → ⊥)

-- a map with wider keys and values, the greater key first
abbrev pub EntriesSeen : Type 0
EntriesSeen =
    IsSeenAs (of_fields (scalar 1 (Map Int32) Int32 ∷ [])) (of_fields (scalar 1 (Map Int64) Int64 ∷ [])) first entries
    (10 ∷ 4 ∷ 8 ∷ 2 ∷ 16 ∷ 4 ∷ 10 ∷ 4 ∷ 8 ∷ 1 ∷ 16 ∷ 3 ∷ []) entries

-- a message inside, of which the new type lacks the field that comes first
abbrev pub inside : List ℕ
inside = 10 ∷ 4 ∷ 16 ∷ 4 ∷ 8 ∷ 3 ∷ []

abbrev pub parents : Shape
parents = (scalar 1 Implicit Int32 ∷ scalar 2 Implicit Int32 ∷ []) ∷ (field 1 Explicit (elements.Message first) ∷ []) ∷ []

abbrev pub later_parents : Shape
later_parents = (scalar 1 Implicit Int32 ∷ []) ∷ (field 1 Explicit (elements.Message first) ∷ []) ∷ []

abbrev pub RestInside : Type 0
RestInside =
    IsSeenAs parents later_parents second (nests 1 None pair (ends [])) inside
    (nests 1 None (holds 1 None (Int (pos 3)) (ends (rest 2 4 ∷ []))) (ends []))

-- a message whose child lost that field would not be what the bytes say
pub record LosesInside : Type 0 where
  pub may_write : MayWrite parents second (nests 1 None pair (ends [])) inside
  pub lost : sees numbers (fields parents second) (fields later_parents second)
      (seen_parts numbers parents later_parents second second (nests 1 None pair (ends [])) may_write.parts
      may_write.are_parts) inside
      (nests 1 None (holds 1 None (Int (pos 3)) (ends [])) (ends [])) ≡ false

-- a number that is read as a bool, after another field
abbrev pub two_numbers : Shape
two_numbers = of_fields (scalar 1 Implicit Int32 ∷ scalar 2 Implicit Int32 ∷ [])

abbrev pub bool_and_number : Shape
bool_and_number = of_fields (scalar 1 Implicit Bool ∷ scalar 2 Implicit Int32 ∷ [])

pub record NumberToBool : Type 0 where
  pub may_write : MayWrite two_numbers first pair (16 ∷ 4 ∷ 8 ∷ 3 ∷ [])
  pub not_seen : IsSeen numbers two_numbers bool_and_number first first pair (16 ∷ 4 ∷ 8 ∷ 3 ∷ []) may_write → ⊥

-- so the types aren't compatible, and some message that breaks has at most so many bytes
abbrev pub NumberToBoolBreaks : Type 0
NumberToBoolBreaks = Compatible numbers two_numbers bool_and_number first first → ⊥

abbrev pub NumberToBoolBound : Type 0
NumberToBoolBound =
    (n : ℕ) → ((x : Message) → Breaks numbers two_numbers bool_and_number first first x
    → n ≤ length (enc two_numbers first x)) → n ≤ 4

abbrev pub WorkedSights : Type 0
WorkedSights =
    RestInOrder × OtherRestIsNone × EntriesSeen × RestInside × LosesInside × NumberToBool × NumberToBoolBreaks
    × NumberToBoolBound

abbrev pub WorkedOrders : Type 0
WorkedOrders =
    EntriesExchanged × FieldsExchanged × FieldsInsideExchanged × ListParted × ListNotExchanged × UnknownNotExchanged
