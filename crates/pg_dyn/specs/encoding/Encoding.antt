-- The encoding of a message (Encoding guide, "Message Structure"). The order of fields, and at most 2,147,483,647 bytes, are
-- this profile's choices.
use Rattle.std.specs.Prelude.{ℕ, List, [], ◌∷◌, ◌++◌, Option, Some, None}
use Rattle.pg_schema.specs.declared.parts.field.TypeId.{TypeId}
use Rattle.pg_schema.specs.declared.parts.field.Element.{Element}
use Rattle.pg_schema.specs.declared.parts.field.Element.TheVariants as elements
use Rattle.pg_schema.specs.Shape.{Shape, FieldShape, fields, field_at}
use Rattle.pg_dyn.specs.message.Message.{Leaf, Bytes, Message, ends, holds, nests, Part, unknown_of}
use Rattle.pg_dyn.specs.encoding.Writing.{records_in, bytes_of}

-- the message type of a field; the first type where the field isn't one of messages
abbrev pub element_type : Element → TypeId
element_type (elements.Message t) = t
element_type (elements.Scalar s) = record { index = 0 }
element_type (elements.Enum e) = record { index = 0 }

abbrev pub child_type : List FieldShape → ℕ → TypeId
child_type fs number = of (field_at fs number)
  where
    of : Option FieldShape → TypeId
    of (Some f) = element_type f.element
    of None = record { index = 0 }

-- the parts of a message, with the encoding of each child for the child
abbrev pub encoded_parts : Shape → TypeId → Message → List (Part Leaf)
encoded_parts shape type (ends unknown) = []
encoded_parts shape type (holds number key leaf later) =
    record { number = number; key = key; item = leaf } ∷ encoded_parts shape type later
encoded_parts shape type (nests number key child later) =
    let of = child_type (fields shape type) number in
    record {
      number = number;
      key = key;
      item = Bytes (bytes_of (records_in (fields shape of) (encoded_parts shape of child)) ++ bytes_of (unknown_of child));
    } ∷ encoded_parts shape type later

-- The bytes of each field's content by rising number, and then the unknown records.
unfoldable pub enc : Shape → TypeId → Message → List ℕ
enc shape type m = bytes_of (records_in (fields shape type) (encoded_parts shape type m)) ++ bytes_of (unknown_of m)

-- the most bytes that an encoding may have
abbrev pub cap : ℕ
cap = 2147483647
