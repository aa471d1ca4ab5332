-- What a message of a type says of its parts with the bytes of each child for it.
use Rattle.std.proofs.Common.{◌≡◌, ℕ, zero, suc, ◌^◌, ◌<◌, List, [], ◌∷◌, map, get_or, length, Option, Some, refl, ap, arith, length-append, rules}
use Rattle.std.specs.List.{AllByRecursion}
use Rattle.pg_schema.specs.declared.parts.field.TypeId.{TypeId}
use Rattle.pg_schema.specs.declared.parts.field.Element.{Element}
use Rattle.pg_schema.specs.declared.parts.field.Element.TheVariants as elements
use Rattle.pg_schema.specs.declared.parts.field.Presence.{Presence}
use Rattle.pg_schema.specs.Shape.{Shape, FieldShape, fields, field_at}
use Rattle.pg_schema.specs.ShapeRules.{PresenceFits, IsField, IsType, IsShape}
use Rattle.pg_dyn.specs.message.Message.{Leaf, Bytes, Message, ends, holds, nests, place_of, places, unknown_of}
use Rattle.pg_dyn.specs.word.Coding.{form}
use Rattle.pg_dyn.specs.encoding.Writing.{records_in, bytes_of}
use Rattle.pg_dyn.specs.encoding.Encoding.{child_type, encoded_parts, enc}
use Rattle.pg_dyn.specs.fitting.Belonging.{MayBeZero, LeafFits, IsPart, IsUnknown, IsMessage}
use Rattle.pg_dyn.proofs.lemmas.word.Codings.{Reads, Reads-from_range}
use Rattle.pg_dyn.specs.laws.Bodies.{IsNestedLeaf}
use Rattle.pg_dyn.proofs.lemmas.reading.Fields.{field_of}
use Rattle.pg_dyn.proofs.lemmas.reading.records.Splitting.{found_number}
use Rattle.pg_dyn.proofs.lemmas.laws.Flat.{FlatPart, FlatParts, IsFlat}
use Rattle.pg_dyn.proofs.Lists.{each_at}

-- a type of a schema
pub fields-IsType : (shape : Shape) (type : TypeId) → IsShape shape → IsType (length shape) (fields shape type)
fields-IsType shape type h = go (length shape) shape type.index h.each
  where
    go : (types : ℕ) (s : Shape) (index : ℕ) → AllByRecursion (IsType types) s → IsType types (get_or s index [])
    go types [] index g = record { each = tt; rising = tt }
    go types (fs ∷ s) zero g = g.0
    go types (fs ∷ s) (suc index) g = go types s index g.1

module _ (shape : Shape) (type : TypeId) where
  pub places-encoded_parts : (m : Message) → map place_of (encoded_parts shape type m) ≡ places m
  places-encoded_parts (ends unknown) = refl
  places-encoded_parts (holds number key leaf later) = ap (λ ps. record { number = number; key = key } ∷ ps) (places-encoded_parts later)
  places-encoded_parts (nests number key child later) = ap (λ ps. record { number = number; key = key } ∷ ps) (places-encoded_parts later)

  pub unknown_fits : (m : Message) → IsMessage shape type m → AllByRecursion (IsUnknown (fields shape type)) (unknown_of m)
  unknown_fits (ends unknown) h = h
  unknown_fits (holds number key leaf later) h = unknown_fits later h.2
  unknown_fits (nests number key child later) h = unknown_fits later h.4

-- the type of a child is that of its field
pub child_type_is : (fs : List FieldShape) (n : ℕ) (f : FieldShape) (t : TypeId) → field_at fs n ≡ Some f → f.element ≡ elements.Message t → child_type fs n ≡ t
child_type_is fs n f t found is = rw (found, is)

-- a leaf in its field
leaf_fits : (number : ℕ) (p : Presence) (e : Element) (oneof : Option ℕ) (leaf : Leaf) → LeafFits (field_of number p e oneof) leaf → Reads (form e) leaf × MayBeZero p leaf × IsNestedLeaf e leaf
leaf_fits number p (elements.Message t) oneof leaf h = absurd h
leaf_fits number p (elements.Scalar s) oneof leaf h = (Reads-from_range (elements.Scalar s) leaf h.0, h.1, tt)
leaf_fits number p (elements.Enum e) oneof leaf h = (Reads-from_range (elements.Enum e) leaf h.0, h.1, tt)

-- a child's bytes in its field, which isn't implicit
child_fits : (p : Presence) (e : Element) (oneof : Option ℕ) (t : TypeId) (bytes : List ℕ) → e ≡ elements.Message t → PresenceFits p e oneof → Reads (form e) (Bytes bytes) × MayBeZero p (Bytes bytes) × IsNestedLeaf e (Bytes bytes)
child_fits p e oneof t bytes is fits = grind arith

module _ (shape : Shape) (type : TypeId) (is_type : IsType (length shape) (fields shape type)) where
  flat_part : (number : ℕ) (key : Option Leaf) (leaf : Leaf) (later : Message) (part : IsPart (fields shape type) number key (places later)) → Reads (form part.field.element) leaf × MayBeZero part.field.presence leaf × IsNestedLeaf part.field.element leaf → FlatPart (fields shape type) (record { number = number; key = key; item = leaf }) (map place_of (encoded_parts shape type later))
  flat_part number key leaf later part item = search (rules, found_number, places-encoded_parts)

  pub flat_parts : (m : Message) → IsMessage shape type m → FlatParts (fields shape type) (encoded_parts shape type m)
  flat_parts (ends unknown) h = tt
  flat_parts (holds number key leaf later) h =
      (flat_part number key leaf later h.0 (leaf_fits h.0.field.number h.0.field.presence h.0.field.element h.0.field.oneof leaf h.1), flat_parts later h.2)
  flat_parts (nests number key child later) h =
      let is_field = each_at (IsField (length shape)) (fields shape type) number h.0.field h.0.found is_type.each in
      (flat_part number key _ later h.0 (child_fits h.0.field.presence h.0.field.element h.0.field.oneof h.1 _ h.2 is_field.presence_fits), flat_parts later h.4)

  pub is_flat : (m : Message) → IsMessage shape type m → length (enc shape type m) < 2 ^ 64 → IsFlat (length shape) (fields shape type) (encoded_parts shape type m) (unknown_of m)
  unfolding enc
  is_flat m h short = record {
    type = is_type;
    parts = flat_parts m h;
    unknown = unknown_fits shape type m h;
    short = omega (arith, length-append (bytes_of (records_in (fields shape type) (encoded_parts shape type m))) (bytes_of (unknown_of m)));
  }
