-- All bytes that may be written of a message are as many, and the encoding is among them.
use Rattle.std.proofs.Common.{◌≡◌, ℕ, ◌⊎◌, inl, inr, List, [], ◌∷◌, ◌++◌, map, filter, flat_map, length, true, false, cond, nat_eq, Option, unwrap_or, refl, ap, sym, subst, ◌∙◌, arith, length-append}
use Rattle.std.specs.Bool.{⊤}
use Rattle.std.proofs.lemmas.List.Sorted.{IsPermutation-refl}
use Rattle.pg_schema.specs.declared.parts.field.TypeId.{TypeId}
use Rattle.pg_schema.specs.declared.parts.field.Scalar.{Scalar}
use Rattle.pg_schema.specs.declared.parts.field.Element.{Element}
use Rattle.pg_schema.specs.declared.parts.field.Element.TheVariants as elements
use Rattle.pg_schema.specs.declared.parts.field.Presence.{Presence}
use Rattle.pg_schema.specs.declared.parts.field.Presence.TheVariants as presences
use Rattle.pg_schema.specs.Shape.{Shape, FieldShape, fields}
use Rattle.pg_wire.specs.declared.record.WireType.{WireType}
use Rattle.pg_wire.specs.declared.record.WireType.TheVariants.{Varint, I64, Len, I32}
use Rattle.pg_wire.specs.Records.{WireRecord, written}
use Rattle.pg_wire.proofs.Lengths.{length-written, length-written_grows}
use Rattle.pg_dyn.specs.message.Message.{Leaf, Bytes, Message, ends, holds, nests, Part, is_of, unknown_of}
use Rattle.pg_dyn.specs.word.Coding.{Form, Integer, Single, Double, Text, Raw, form, form_wire, body, zero_leaf}
use Rattle.pg_dyn.specs.encoding.Writing.{entry_bytes, field_records, item_record, key_of, records_in, bytes_of}
use Rattle.pg_dyn.specs.encoding.Encoding.{child_type, encoded_parts, enc}
use Rattle.pg_dyn.proofs.Lists.{flat_map-append'}
use Rattle.pg_dyn.proofs.lemmas.reading.Fields.{field_of}
use Rattle.pg_order.specs.MayWrite.{IsReordered, MayBeParts, MayWrite}
use Rattle.pg_order.proofs.lemmas.Moved.{length-flat_moved}

-- bytes in the place of as many others
pub record AreAsMany (a b : Leaf) : Type 0 where
  pub first : List ℕ
  pub second : List ℕ
  pub first_is : a ≡ Bytes first
  pub second_is : b ≡ Bytes second
  pub as_many : length first ≡ length second

abbrev pub Alike : Leaf → Leaf → Type 0
Alike a b = (a ≡ b) ⊎ AreAsMany a b

pub record PartAlike (p q : Part Leaf) : Type 0 where
  pub number : p.number ≡ q.number
  pub key : p.key ≡ q.key
  pub item : Alike p.item q.item

abbrev pub PartsAlike : List (Part Leaf) → List (Part Leaf) → Type 0
PartsAlike [] [] = ⊤
PartsAlike [] (q ∷ qs) = ⊥
PartsAlike (p ∷ ps) [] = ⊥
PartsAlike (p ∷ ps) (q ∷ qs) = PartAlike p q × PartsAlike ps qs

bytes_alike : (f : Form) (x y : List ℕ) → length x ≡ length y → length (body f (Bytes x)) ≡ length (body f (Bytes y))
bytes_alike (Integer whole) x y h = refl
bytes_alike Single x y h = refl
bytes_alike Double x y h = refl
bytes_alike Text x y h = h
bytes_alike Raw x y h = h

body_alike : (f : Form) (a b : Leaf) → Alike a b → length (body f a) ≡ length (body f b)
body_alike f a b (inl same) = ap (λ l. length (body f l)) same
body_alike f a b (inr many) =
    ap (λ l. length (body f l)) many.first_is ∙ bytes_alike f many.first many.second many.as_many ∙ sym (ap (λ l. length (body f l)) many.second_is)

-- records with bodies of one length
record_alike : (n : ℕ) (w : WireType) (a b : List ℕ) → length a ≡ length b → length (written n w a).bytes ≡ length (written n w b).bytes
record_alike n Varint a b h = omega (arith, length-written n Varint a, length-written n Varint b)
record_alike n I64 a b h = omega (arith, length-written n I64 a, length-written n I64 b)
record_alike n I32 a b h = omega (arith, length-written n I32 a, length-written n I32 b)
record_alike n Len a b h = omega (arith, length-written_grows n a b (omega arith), length-written_grows n b a (omega arith))

item_alike : (n : ℕ) (e : Element) (a b : Leaf) → Alike a b → length (item_record n e a).bytes ≡ length (item_record n e b).bytes
item_alike n e a b h = record_alike n (form_wire (form e)) (body (form e) a) (body (form e) b) (body_alike (form e) a b h)

entry_alike : (n : ℕ) (key : Scalar) (e : Element) (p q : Part Leaf) → PartAlike p q → length (written n Len (entry_bytes key e (key_of key p) p.item)).bytes ≡ length (written n Len (entry_bytes key e (key_of key q) q.item)).bytes
entry_alike n key e p q h =
    let same : key_of key p ≡ key_of key q = ap (λ k. unwrap_or k (zero_leaf (form (elements.Scalar key)))) h.key in
    record_alike n Len (entry_bytes key e (key_of key p) p.item) (entry_bytes key e (key_of key q) q.item)
    (ap (λ k. length (entry_bytes key e k p.item)) same
    ∙ omega (arith, length-append (item_record 1 (elements.Scalar key) (key_of key q)).bytes (item_record 2 e p.item).bytes, length-append (item_record 1 (elements.Scalar key) (key_of key q)).bytes (item_record 2 e q.item).bytes, item_alike 2 e p.item q.item h.item))

-- what is made of each part
flat_alike : (make : Part Leaf → List ℕ) → ((p q : Part Leaf) → PartAlike p q → length (make p) ≡ length (make q)) → (ps qs : List (Part Leaf)) → PartsAlike ps qs → length (flat_map make ps) ≡ length (flat_map make qs)
flat_alike make same [] [] h = refl
flat_alike make same [] (q ∷ qs) h = absurd h
flat_alike make same (p ∷ ps) [] h = absurd h
flat_alike make same (p ∷ ps) (q ∷ qs) h =
    let first = same p q h.0 in
    let later = flat_alike make same ps qs h.1 in
    omega (arith, length-append (make p) (flat_map make ps), length-append (make q) (flat_map make qs))

flat_map_map : (make : Part Leaf → WireRecord) (ps : List (Part Leaf)) → bytes_of (map make ps) ≡ flat_map (λ p. (make p).bytes) ps
flat_map_map make [] = refl
flat_map_map make (p ∷ ps) = ap (λ bytes. (make p).bytes ++ bytes) (flat_map_map make ps)

each_alike : (make : Part Leaf → WireRecord) → ((p q : Part Leaf) → PartAlike p q → length (make p).bytes ≡ length (make q).bytes) → (ps qs : List (Part Leaf)) → PartsAlike ps qs → length (bytes_of (map make ps)) ≡ length (bytes_of (map make qs))
each_alike make same ps qs h =
    ap length (flat_map_map make ps) ∙ flat_alike (λ p. (make p).bytes) same ps qs h ∙ sym (ap length (flat_map_map make qs))

items_alike : (n : ℕ) (e : Element) (ps qs : List (Part Leaf)) → PartsAlike ps qs → length (bytes_of (map (λ (p : Part Leaf). item_record n e p.item) ps)) ≡ length (bytes_of (map (λ (p : Part Leaf). item_record n e p.item) qs))
items_alike n e ps qs h = each_alike (λ (p : Part Leaf). item_record n e p.item) (λ p q k. item_alike n e p.item q.item k.item) ps qs h

of_field_alike : (n : ℕ) (p : Presence) (e : Element) (oneof : Option ℕ) (ps qs : List (Part Leaf)) → PartsAlike ps qs → length (bytes_of (field_records (field_of n p e oneof) ps)) ≡ length (bytes_of (field_records (field_of n p e oneof) qs))
of_field_alike n presences.Implicit e oneof ps qs h = items_alike n e ps qs h
of_field_alike n presences.Explicit e oneof ps qs h = items_alike n e ps qs h
of_field_alike n (presences.Repeated false) e oneof ps qs h = items_alike n e ps qs h
of_field_alike n (presences.Repeated true) e oneof [] [] h = refl
of_field_alike n (presences.Repeated true) e oneof [] (q ∷ qs) h = absurd h
of_field_alike n (presences.Repeated true) e oneof (p ∷ ps) [] h = absurd h
of_field_alike n (presences.Repeated true) e oneof (p ∷ ps) (q ∷ qs) h =
    let body_of = λ (x : Part Leaf). body (form e) x.item in
    let same = record_alike n Len (flat_map body_of (p ∷ ps)) (flat_map body_of (q ∷ qs)) (flat_alike body_of (λ x y k. body_alike (form e) x.item y.item k.item) (p ∷ ps) (q ∷ qs) h) in
    omega (arith, length-append (written n Len (flat_map body_of (p ∷ ps))).bytes [], length-append (written n Len (flat_map body_of (q ∷ qs))).bytes [])
of_field_alike n (presences.Map key) e oneof ps qs h =
    each_alike (λ (p : Part Leaf). written n Len (entry_bytes key e (key_of key p) p.item)) (entry_alike n key e) ps qs h

filter_alike : (n : ℕ) (ps qs : List (Part Leaf)) → PartsAlike ps qs → PartsAlike (filter (is_of n) ps) (filter (is_of n) qs)
filter_alike n [] [] h = tt
filter_alike n [] (q ∷ qs) h = absurd h
filter_alike n (p ∷ ps) [] h = absurd h
filter_alike n (p ∷ ps) (q ∷ qs) h =
    let later = filter_alike n ps qs h.1 in
    let same : is_of n p ≡ is_of n q = ap (λ k. nat_eq k n) h.0.number in
    subst (λ b. PartsAlike (cond b (p ∷ filter (is_of n) ps) (filter (is_of n) ps)) (filter (is_of n) (q ∷ qs))) (sym same)
    (elim (is_of n q) as (λ b. PartsAlike (cond b (p ∷ filter (is_of n) ps) (filter (is_of n) ps)) (cond b (q ∷ filter (is_of n) qs) (filter (is_of n) qs))) [ true ↦ (h.0, later) | false ↦ later ])

records_alike : (fs : List FieldShape) (ps qs : List (Part Leaf)) → PartsAlike ps qs → length (bytes_of (records_in fs ps)) ≡ length (bytes_of (records_in fs qs))
records_alike [] ps qs h = refl
records_alike (f ∷ fs) ps qs h =
    let own = of_field_alike f.number f.presence f.element f.oneof (filter (is_of f.number) ps) (filter (is_of f.number) qs) (filter_alike f.number ps qs h) in
    let later = records_alike fs ps qs h in
    let first = flat_map-append' (λ (r : WireRecord). r.bytes) (field_records f (filter (is_of f.number) ps)) (records_in fs ps) in
    let second = flat_map-append' (λ (r : WireRecord). r.bytes) (field_records f (filter (is_of f.number) qs)) (records_in fs qs) in
    omega (arith, ap length first, ap length second, length-append (bytes_of (field_records f (filter (is_of f.number) ps))) (bytes_of (records_in fs ps)), length-append (bytes_of (field_records f (filter (is_of f.number) qs))) (bytes_of (records_in fs qs)))

module _ (shape : Shape) where
  written_length : (type : TypeId) (m : Message) (ps : List (Part Leaf)) → PartsAlike (encoded_parts shape type m) ps → (rs : List WireRecord) → IsReordered (fields shape type) (records_in (fields shape type) ps ++ unknown_of m) rs → length (bytes_of rs) ≡ length (enc shape type m)
  unfolding enc
  written_length type m ps alike rs reordered =
      let moved = length-flat_moved (λ (r : WireRecord). r.bytes) (records_in (fields shape type) ps ++ unknown_of m) rs reordered.same in
      let joined = flat_map-append' (λ (r : WireRecord). r.bytes) (records_in (fields shape type) ps) (unknown_of m) in
      let same = records_alike (fields shape type) (encoded_parts shape type m) ps alike in
      omega (arith, ap length joined, length-append (bytes_of (records_in (fields shape type) ps)) (bytes_of (unknown_of m)), length-append (bytes_of (records_in (fields shape type) (encoded_parts shape type m))) (bytes_of (unknown_of m)))

  parts_alike : (type : TypeId) (m : Message) (ps : List (Part Leaf)) → MayBeParts shape type m ps → PartsAlike (encoded_parts shape type m) ps
  unfolding enc
  parts_alike type (ends unknown) ps h = subst (PartsAlike []) (sym h) tt
  parts_alike type (holds number key leaf later) ps (qs, is, rest) =
      subst (PartsAlike (encoded_parts shape type (holds number key leaf later))) (sym is) (record { number = refl; key = refl; item = inl refl }, parts_alike type later qs rest)
  parts_alike type (nests number key child later) ps (qs, bytes, is, child_written, rest) =
      let of = child_type (fields shape type) number in
      let as_many : length bytes ≡ length (enc shape of child) =
      ap length child_written.bytes_are ∙ written_length of child child_written.parts (parts_alike of child child_written.parts child_written.are_parts) child_written.records child_written.reordered in
      subst (PartsAlike (encoded_parts shape type (nests number key child later))) (sym is)
      (record { number = refl; key = refl; item = inr (record { first = enc shape of child; second = bytes; first_is = refl; second_is = refl; as_many = sym as_many }) }, parts_alike type later qs rest)

  pub one_length : (type : TypeId) (m : Message) (bytes : List ℕ) → MayWrite shape type m bytes → length bytes ≡ length (enc shape type m)
  one_length type m bytes w = ap length w.bytes_are ∙ written_length type m w.parts (parts_alike type m w.parts w.are_parts) w.records w.reordered

  -- The encoding is among them.

  pub same_order : (fs : List FieldShape) (rs : List WireRecord) → IsReordered fs rs rs
  same_order fs rs = record { same = IsPermutation-refl rs; in_order = λ number h. refl; unknown = refl }

  in_own_order : (type : TypeId) (m : Message) → MayBeParts shape type m (encoded_parts shape type m) → MayWrite shape type m (enc shape type m)
  unfolding enc
  in_own_order type m h = record {
    parts = encoded_parts shape type m;
    are_parts = h;
    records = records_in (fields shape type) (encoded_parts shape type m) ++ unknown_of m;
    reordered = same_order (fields shape type) (records_in (fields shape type) (encoded_parts shape type m) ++ unknown_of m);
    bytes_are = sym (flat_map-append' (λ (r : WireRecord). r.bytes) (records_in (fields shape type) (encoded_parts shape type m)) (unknown_of m));
  }

  encoded_may_be : (type : TypeId) (m : Message) → MayBeParts shape type m (encoded_parts shape type m)
  unfolding enc
  encoded_may_be type (ends unknown) = refl
  encoded_may_be type (holds number key leaf later) = (encoded_parts shape type later, refl, encoded_may_be type later)
  encoded_may_be type (nests number key child later) =
      let of = child_type (fields shape type) number in
      (encoded_parts shape type later, enc shape of child, refl, in_own_order of child (encoded_may_be of child), encoded_may_be type later)

  pub encoding_may_be_written : (type : TypeId) (m : Message) → MayWrite shape type m (enc shape type m)
  encoding_may_be_written type m = in_own_order type m (encoded_may_be type m)
