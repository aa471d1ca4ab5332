-- A message that a type writes it reads again.
use Rattle.std.proofs.Common.{◌≡◌, ℕ, zero, suc, ◌^◌, ◌<◌, ◌≤◌, List, ◌∷◌, ◌++◌, map, filter, length, true, false, cond, nat_eq, Option, Some, is_some, Ok, refl, ap, sym, ◌∙◌, subst, arith, rules}
use Rattle.std.specs.Bool.{⊤}
use Rattle.std.specs.List.{AllByRecursion}
use Rattle.std.proofs.lemmas.Bool.{eqb-true}
use Rattle.pg_schema.specs.declared.parts.field.TypeId.{TypeId}
use Rattle.pg_schema.specs.declared.parts.field.Element.{Element}
use Rattle.pg_schema.specs.declared.parts.field.Element.TheVariants as elements
use Rattle.pg_schema.specs.Shape.{Shape, FieldShape, fields, field_at}
use Rattle.pg_schema.specs.ShapeRules.{IsShape}
use Rattle.pg_wire.specs.Records.{WireRecord, records_of}
use Rattle.pg_dyn.specs.reading.Optional.{all_some}
use Rattle.pg_dyn.specs.message.Message.{Leaf, Bytes, Plain, Msg, Message, ends, holds, nests, Part, parts, unknown_of, message_from, is_of}
use Rattle.pg_dyn.specs.reading.Content.{counted, content}
use Rattle.pg_dyn.specs.encoding.Writing.{records_in}
use Rattle.pg_dyn.specs.encoding.Encoding.{child_type, encoded_parts, enc}
use Rattle.pg_dyn.specs.reading.Decoding.{Reader, read_item, read_part, field_parts, dec_within, dec}
use Rattle.pg_dyn.specs.fitting.Belonging.{LeafFits, IsMessage}
use Rattle.pg_dyn.proofs.Lists.{all_some-map, each_weaker, each_both}
use Rattle.pg_dyn.proofs.lemmas.reading.Fields.{field_of}
use Rattle.pg_dyn.proofs.lemmas.laws.Flat.{IsFlat, Known, each_known, contents_again, unknown_again, records_again}
use Rattle.pg_dyn.proofs.lemmas.reading.records.Readable.{ChildReads, all_readable_again}
use Rattle.pg_dyn.proofs.lemmas.fitting.Belonging.{fields-IsType, child_type_is, is_flat}
use Rattle.pg_dyn.proofs.lemmas.laws.Order.{NeverFalls, of_each_is, never_falls, places-parts}
use Rattle.pg_dyn.specs.laws.OwnParts.{ChildrenShorter}
use Rattle.pg_dyn.proofs.lemmas.laws.Shorter.{children_shorter}

message_from-parts : (m : Message) → message_from (parts m) (unknown_of m) ≡ m
message_from-parts (ends unknown) = refl
message_from-parts (holds number key leaf later) = ap (holds number key leaf) (message_from-parts later)
message_from-parts (nests number key child later) = ap (nests number key child) (message_from-parts later)

module _ (child : Reader) (shape : Shape) (type : TypeId) where
  -- the reader reads each child of the message from what is written of it
  abbrev pub ChildrenAgain : Message → Type 0
  ChildrenAgain (ends unknown) = ⊤
  ChildrenAgain (holds number key leaf later) = ChildrenAgain later
  ChildrenAgain (nests number key c later) =
      (child (child_type (fields shape type) number) (enc shape (child_type (fields shape type) number) c) ≡ Some c) × ChildrenAgain later

  leaf_item : (number : ℕ) (p : _) (e : Element) (oneof : Option ℕ) (leaf : Leaf) → LeafFits (field_of number p e oneof) leaf → read_item child e leaf ≡ Some (Plain leaf)
  leaf_item number p e oneof leaf h = grind arith

  same_field : (f g : FieldShape) (n : ℕ) → field_at (fields shape type) n ≡ Some g → field_at (fields shape type) f.number ≡ Some f → n ≡ f.number → g ≡ f
  same_field f g n found known at = search rules

  child_element : (f : FieldShape) → field_at (fields shape type) f.number ≡ Some f → (number : ℕ) (g : FieldShape) (t : TypeId) → field_at (fields shape type) number ≡ Some g → g.element ≡ elements.Message t → number ≡ f.number → f.element ≡ elements.Message (child_type (fields shape type) number)
  child_element f known number g t found is at = search (rules, same_field, child_type_is)

  -- the parts of a field
  parts_again : (f : FieldShape) → field_at (fields shape type) f.number ≡ Some f → (m : Message) → IsMessage shape type m → ChildrenAgain m → all_some (map (read_part child f.element) (filter (is_of f.number) (encoded_parts shape type m))) ≡ Some (filter (is_of f.number) (parts m))
  unfolding enc
  parts_again f known (ends unknown) h again = refl
  parts_again f known (holds number key leaf later) h again =
      elim (nat_eq number f.number) as (λ b. nat_eq number f.number ≡ b → all_some (map (read_part child f.element) (cond b (record { number = number; key = key; item = leaf } ∷ filter (is_of f.number) (encoded_parts shape type later)) (filter (is_of f.number) (encoded_parts shape type later)))) ≡ Some (cond b (record { number = number; key = key; item = Plain leaf } ∷ filter (is_of f.number) (parts later)) (filter (is_of f.number) (parts later)))) [
        | true ↦ λ e.
            let same = same_field f h.0.field number h.0.found known (eqb-true number f.number e) in
            let item : read_item child f.element leaf ≡ Some (Plain leaf) =
            subst (λ (g : FieldShape). read_item child g.element leaf ≡ Some (Plain leaf)) same (leaf_item h.0.field.number h.0.field.presence h.0.field.element h.0.field.oneof leaf h.1) in
            rw (item, parts_again f known later h.2 again)
        | false ↦ λ e. parts_again f known later h.2 again
      ] refl
  parts_again f known (nests number key c later) h again =
      elim (nat_eq number f.number) as (λ b. nat_eq number f.number ≡ b → all_some (map (read_part child f.element) (cond b (record { number = number; key = key; item = Bytes (enc shape (child_type (fields shape type) number) c) } ∷ filter (is_of f.number) (encoded_parts shape type later)) (filter (is_of f.number) (encoded_parts shape type later)))) ≡ Some (cond b (record { number = number; key = key; item = Msg c } ∷ filter (is_of f.number) (parts later)) (filter (is_of f.number) (parts later)))) [
        | true ↦ λ e.
            let of = child_element f known number h.0.field h.1 h.0.found h.2 (eqb-true number f.number e) in
            rw (of, again.0, parts_again f known later h.4 again.1)
        | false ↦ λ e. parts_again f known later h.4 again.1
      ] refl

  leaf_child : (number : ℕ) (p : _) (e : Element) (oneof : Option ℕ) (leaf : Leaf) → LeafFits (field_of number p e oneof) leaf → ChildReads child e leaf
  leaf_child number p e oneof leaf h = grind arith

  -- each child in a field is read
  children_read : (f : FieldShape) → field_at (fields shape type) f.number ≡ Some f → (m : Message) → IsMessage shape type m → ChildrenAgain m → AllByRecursion (λ (q : Part Leaf). ChildReads child f.element q.item) (filter (is_of f.number) (encoded_parts shape type m))
  unfolding enc
  children_read f known (ends unknown) h again = tt
  children_read f known (holds number key leaf later) h again =
      elim (nat_eq number f.number) as (λ b. nat_eq number f.number ≡ b → AllByRecursion (λ (q : Part Leaf). ChildReads child f.element q.item) (cond b (record { number = number; key = key; item = leaf } ∷ filter (is_of f.number) (encoded_parts shape type later)) (filter (is_of f.number) (encoded_parts shape type later)))) [
        | true ↦ λ e. (
          subst (λ (g : FieldShape). ChildReads child g.element leaf) (same_field f h.0.field number h.0.found known (eqb-true number f.number e))
              (leaf_child h.0.field.number h.0.field.presence h.0.field.element h.0.field.oneof leaf h.1),
          children_read f known later h.2 again,
        )
        | false ↦ λ e. children_read f known later h.2 again
      ] refl
  children_read f known (nests number key c later) h again =
      elim (nat_eq number f.number) as (λ b. nat_eq number f.number ≡ b → AllByRecursion (λ (q : Part Leaf). ChildReads child f.element q.item) (cond b (record { number = number; key = key; item = Bytes (enc shape (child_type (fields shape type) number) c) } ∷ filter (is_of f.number) (encoded_parts shape type later)) (filter (is_of f.number) (encoded_parts shape type later)))) [
        | true ↦ λ e. (
          subst (λ x. ChildReads child x (Bytes (enc shape (child_type (fields shape type) number) c))) (sym (child_element f known number h.0.field h.1 h.0.found h.2 (eqb-true number f.number e)))
              (ap is_some again.0),
          children_read f known later h.4 again.1,
        )
        | false ↦ λ e. children_read f known later h.4 again.1
      ] refl

-- One level: where the children are read again, the message is.
message_again : (depth : ℕ) (shape : Shape) (type : TypeId) (m : Message) → IsShape shape → IsMessage shape type m → length (enc shape type m) < 2 ^ 64 → ChildrenAgain (dec_within depth shape) shape type m → dec_within (suc depth) shape type (enc shape type m) ≡ Some m
unfolding enc
message_again depth shape type m is_shape h short again =
    rw (records_again types fs ps us flat, all_readable_again child types fs ps us flat read, all_some-map (field_parts child fs (records_in fs ps ++ us)) (λ f. filter (is_of f.number) (parts m)) fs each, unknown_again types fs ps us flat)
    (ap Some (ap (λ qs. message_from qs us) (of_each_is fs (parts m) flat.type.rising (subst (NeverFalls fs) (sym (places-parts m)) (never_falls shape type m h))) ∙ message_from-parts m))
  where
    child : Reader
    child = dec_within depth shape

    types : ℕ
    types = length shape

    fs : List FieldShape
    fs = fields shape type

    ps : List (Part Leaf)
    ps = encoded_parts shape type m

    us : List WireRecord
    us = unknown_of m

    flat : IsFlat types fs ps us
    flat = is_flat shape type (fields-IsType shape type is_shape) m h short

    read : AllByRecursion (λ f. AllByRecursion (λ q. ChildReads child f.element q.item) (filter (is_of f.number) ps)) fs
    read = each_weaker (Known types fs) (λ f. AllByRecursion (λ q. ChildReads child f.element q.item) (filter (is_of f.number) ps)) (λ f known. children_read child shape type f known.0 m h again) fs (each_known types fs flat.type)

    each : AllByRecursion (λ f. field_parts child fs (records_in fs ps ++ us) f ≡ Some (filter (is_of f.number) (parts m))) fs
    each =
        each_weaker (λ f. Known types fs f × (content f (counted fs f (records_in fs ps ++ us)) ≡ Some (filter (is_of f.number) ps))) (λ f. field_parts child fs (records_in fs ps ++ us) f ≡ Some (filter (is_of f.number) (parts m)))
        (λ f k. rw k.1 (parts_again child shape type f k.0.0 m h again)) fs
        (each_both (Known types fs) (λ f. content f (counted fs f (records_in fs ps ++ us)) ≡ Some (filter (is_of f.number) ps)) fs (each_known types fs flat.type) (contents_again types fs ps us flat))

-- The children of a message are read again, if there is depth enough for their bytes.
children_again : (depth : ℕ) (shape : Shape) (type : TypeId) (n : ℕ) (m : Message) → IsShape shape → IsMessage shape type m → n ≤ depth → n < 2 ^ 64 → ChildrenShorter shape type n m → ChildrenAgain (dec_within depth shape) shape type m
children_again depth shape type n (ends unknown) is_shape h deep small shorter = tt
children_again depth shape type n (holds number key leaf later) is_shape h deep small shorter = children_again depth shape type n later is_shape h.2 deep small shorter
children_again zero shape type n (nests number key c later) is_shape h deep small shorter = absurd (let first = shorter.0 in omega arith)
children_again (suc depth) shape type n (nests number key c later) is_shape h deep small shorter =
    let first = shorter.0 in
    let of = child_type (fields shape type) number in
    let is : IsMessage shape of c = subst (λ t. IsMessage shape t c) (sym (child_type_is (fields shape type) number h.0.field h.1 h.0.found h.2)) h.3 in
    let short : length (enc shape of c) < 2 ^ 64 = omega arith in
    let within : length (enc shape of c) ≤ depth = omega arith in (
      message_again depth shape of c is_shape is short
          (children_again depth shape of (length (enc shape of c)) c is_shape is within short (children_shorter shape of c is (is_flat shape of (fields-IsType shape of is_shape) c is short))),
      children_again (suc depth) shape type n later is_shape h.4 deep small shorter.1,
    )

pub reads_again : (shape : Shape) (type : TypeId) (m : Message) → IsShape shape → IsMessage shape type m → length (enc shape type m) < 2 ^ 64 → dec shape type (enc shape type m) ≡ Some m
unfolding dec
reads_again shape type m is_shape h short =
    message_again (length (enc shape type m)) shape type m is_shape h short
    (children_again (length (enc shape type m)) shape type (length (enc shape type m)) m is_shape h (omega arith) short
    (children_shorter shape type m h (is_flat shape type (fields-IsType shape type is_shape) m h short)))

-- the records of an encoding
pub records_of-enc : (shape : Shape) (type : TypeId) (m : Message) → IsShape shape → IsMessage shape type m → length (enc shape type m) < 2 ^ 64 → records_of (enc shape type m) ≡ Ok (records_in (fields shape type) (encoded_parts shape type m) ++ unknown_of m)
unfolding enc
records_of-enc shape type m is_shape h short =
    records_again (length shape) (fields shape type) (encoded_parts shape type m) (unknown_of m) (is_flat shape type (fields-IsType shape type is_shape) m h short)
