-- The bytes of a child are fewer than those of the message around it.
use Rattle.std.proofs.Common.{◌≡◌, ℕ, ◌<◌, ◌≤◌, List, map, filter, flat_map, length, true, false, nat_eq, Option, refl, ap, sym, ◌∙◌, arith, length-append, eq-eqb, rules}
use Rattle.std.specs.List.{AllByRecursion}
use Rattle.pg_schema.specs.declared.parts.field.TypeId.{TypeId}
use Rattle.pg_schema.specs.declared.parts.field.Scalar.{Scalar}
use Rattle.pg_schema.specs.declared.parts.field.Element.{Element}
use Rattle.pg_schema.specs.declared.parts.field.Element.TheVariants as elements
use Rattle.pg_schema.specs.declared.parts.field.Presence.{Presence}
use Rattle.pg_schema.specs.declared.parts.field.Presence.TheVariants as presences
use Rattle.pg_schema.specs.Shape.{Shape, FieldShape, fields, field_at, is_packable}
use Rattle.pg_schema.specs.ShapeRules.{PresenceFits}
use Rattle.pg_wire.specs.declared.record.WireType.TheVariants.{Len}
use Rattle.pg_wire.specs.Records.{WireRecord, written}
use Rattle.pg_dyn.specs.message.Message.{Leaf, Bytes, Message, ends, holds, nests, Part, is_of, unknown_of}
use Rattle.pg_dyn.specs.reading.Content.{leaf_bytes}
use Rattle.pg_dyn.specs.encoding.Writing.{item_record, entry_bytes, key_of, field_records, records_in, bytes_of}
use Rattle.pg_dyn.specs.encoding.Encoding.{child_type, encoded_parts, enc}
use Rattle.pg_dyn.specs.fitting.Belonging.{IsMessage}
use Rattle.pg_dyn.proofs.Lists.{each_at, each_both, each_of_all, each_passing, each_swap, each_weaker, each_within, flat_map-map}
use Rattle.pg_dyn.proofs.lemmas.reading.entries.Entries.{length_body-written}
use Rattle.pg_dyn.specs.laws.OwnParts.{FitsField, ChildrenShorter}
use Rattle.pg_dyn.proofs.lemmas.reading.Fields.{field_of}
use Rattle.pg_dyn.proofs.lemmas.reading.records.Splitting.{found_number}
use Rattle.pg_dyn.proofs.lemmas.laws.Flat.{IsFlat, Known, each_known, each_fits, own_records, own_within}

module _ (number : ℕ) (t : TypeId) where
  -- a record for each part, longer than the part's bytes
  each_shorter : (make : Part Leaf → WireRecord) (qs : List (Part Leaf)) → AllByRecursion (λ q. length (leaf_bytes q.item) < length (make q).bytes) qs → AllByRecursion (λ q. length (leaf_bytes q.item) < length (bytes_of (map make qs))) qs
  each_shorter make qs h =
      each_weaker (λ q. (length (leaf_bytes q.item) < length (make q).bytes) × (length (make q).bytes ≤ length (flat_map (λ x. (make x).bytes) qs))) (λ q. length (leaf_bytes q.item) < length (bytes_of (map make qs)))
      (λ q g. let same = ap length (flat_map-map (λ (r : WireRecord). r.bytes) make qs) in omega (arith, g.0, g.1)) qs
      (each_both (λ q. length (leaf_bytes q.item) < length (make q).bytes) (λ q. length (make q).bytes ≤ length (flat_map (λ x. (make x).bytes) qs)) qs h (each_within (λ q. (make q).bytes) qs))

  item_shorter : (n : ℕ) (leaf : Leaf) → leaf ≡ Bytes (leaf_bytes leaf) → length (leaf_bytes leaf) < length (item_record n (elements.Message t) leaf).bytes
  item_shorter n leaf nested = search (rules, arith, length_body-written)

  entry_shorter : (key : Scalar) (k leaf : Leaf) → leaf ≡ Bytes (leaf_bytes leaf) → length (leaf_bytes leaf) < length (written number Len (entry_bytes key (elements.Message t) k leaf)).bytes
  entry_shorter key k leaf nested =
      search (rules, arith, item_shorter, length_body-written, length-append)

  shorter_in_field : (p : Presence) (oneof : Option ℕ) → PresenceFits p (elements.Message t) oneof → (qs : List (Part Leaf)) → AllByRecursion (FitsField number p (elements.Message t)) qs → AllByRecursion (λ q. length (leaf_bytes q.item) < length (bytes_of (field_records (field_of number p (elements.Message t) oneof) qs))) qs
  shorter_in_field p oneof fits qs h = of p fits
    where
      nested : AllByRecursion (λ q. q.item ≡ Bytes (leaf_bytes q.item)) qs
      nested = each_weaker (FitsField number p (elements.Message t)) (λ q. q.item ≡ Bytes (leaf_bytes q.item)) (λ q f. f.nested) qs h

      items : AllByRecursion (λ q. length (leaf_bytes q.item) < length (bytes_of (map (λ (x : Part Leaf). item_record number (elements.Message t) x.item) qs))) qs
      items =
          each_shorter (λ (q : Part Leaf). item_record number (elements.Message t) q.item) qs
          (each_weaker (λ q. q.item ≡ Bytes (leaf_bytes q.item)) (λ q. length (leaf_bytes q.item) < length (item_record number (elements.Message t) q.item).bytes) (λ q n. item_shorter number q.item n) qs nested)

      of : (x : Presence) → PresenceFits x (elements.Message t) oneof → AllByRecursion (λ q. length (leaf_bytes q.item) < length (bytes_of (field_records (field_of number x (elements.Message t) oneof) qs))) qs
      of presences.Implicit g = absurd g
      of presences.Explicit g = items
      of (presences.Repeated true) g = absurd (not_packable (g.1 refl))
        where
          not_packable : is_packable (elements.Message t) ≡ true → ⊥
          not_packable k = cc
      of (presences.Repeated false) g = items
      of (presences.Map key) g =
          each_shorter (λ (q : Part Leaf). written number Len (entry_bytes key (elements.Message t) (key_of key q) q.item)) qs
          (each_weaker (λ q. q.item ≡ Bytes (leaf_bytes q.item)) (λ q. length (leaf_bytes q.item) < length (written number Len (entry_bytes key (elements.Message t) (key_of key q) q.item)).bytes)
          (λ q n. entry_shorter key (key_of key q) q.item n) qs nested)

shorter_of_field : (number : ℕ) (p : Presence) (e : Element) (oneof : Option ℕ) → PresenceFits p e oneof → (qs : List (Part Leaf)) → AllByRecursion (FitsField number p e) qs → (t : TypeId) → e ≡ elements.Message t → AllByRecursion (λ q. length (leaf_bytes q.item) < length (bytes_of (field_records (field_of number p e oneof) qs))) qs
shorter_of_field number p (elements.Message u) oneof fits qs h t is = shorter_in_field number u p oneof fits qs h
shorter_of_field number p (elements.Scalar s) oneof fits qs h t is = absurd (cc)
shorter_of_field number p (elements.Enum e) oneof fits qs h t is = absurd (cc)

module _ (types : ℕ) (fs : List FieldShape) (ps : List (Part Leaf)) (us : List WireRecord) (flat : IsFlat types fs ps us) where
  -- a part that is a child of the field has fewer bytes than all that is written
  abbrev pub IsShorter : FieldShape → Part Leaf → Type 0
  IsShorter f p = (t : TypeId) → f.element ≡ elements.Message t → is_of f.number p ≡ true → length (leaf_bytes p.item) < length (bytes_of (records_in fs ps))

  by_field : (f : FieldShape) → Known types fs f → length (bytes_of (own_records types fs ps us flat f)) ≤ length (bytes_of (records_in fs ps)) → AllByRecursion (IsShorter f) ps
  by_field f known within = parts_of f.element refl
    where
      parts_of : (e : Element) → f.element ≡ e → AllByRecursion (IsShorter f) ps
      parts_of (elements.Scalar s) is = each_of_all (IsShorter f) (λ p t k. absurd (clash s t (sym is ∙ k))) ps
        where
          clash : (x : Scalar) (t : TypeId) → elements.Scalar x ≡ elements.Message t → ⊥
          clash x t k = cc
      parts_of (elements.Enum e) is = each_of_all (IsShorter f) (λ p t k. absurd (clash t (sym is ∙ k))) ps
        where
          clash : (t : TypeId) → elements.Enum e ≡ elements.Message t → ⊥
          clash t k = cc
      parts_of (elements.Message u) is =
          each_weaker (λ p. is_of f.number p ≡ true → length (leaf_bytes p.item) < length (bytes_of (own_records types fs ps us flat f))) (IsShorter f)
          (λ p g t k at. let first = g at in omega arith) ps
          (each_passing (λ p. length (leaf_bytes p.item) < length (bytes_of (own_records types fs ps us flat f))) (is_of f.number) ps
          (shorter_of_field f.number f.presence f.element f.oneof known.1.presence_fits (filter (is_of f.number) ps) (each_fits fs f known.0 ps flat.parts) u is))

  each_part_shorter : AllByRecursion (λ p. AllByRecursion (λ f. IsShorter f p) fs) ps
  each_part_shorter =
      each_swap IsShorter fs ps
      (each_weaker (λ f. Known types fs f × (length (bytes_of (own_records types fs ps us flat f)) ≤ length (bytes_of (records_in fs ps)))) (λ f. AllByRecursion (IsShorter f) ps)
      (λ f h. by_field f h.0 h.1) fs
      (each_both (Known types fs) (λ f. length (bytes_of (own_records types fs ps us flat f)) ≤ length (bytes_of (records_in fs ps))) fs (each_known types fs flat.type) (own_within types fs ps us flat fs)))

module _ (shape : Shape) (type : TypeId) (fs : List FieldShape) (whole : ℕ) where
  children_from : fs ≡ fields shape type → (m : Message) → IsMessage shape type m → AllByRecursion (λ p. AllByRecursion (λ (f : FieldShape). (t : TypeId) → f.element ≡ elements.Message t → is_of f.number p ≡ true → length (leaf_bytes p.item) < whole) fs) (encoded_parts shape type m) → ChildrenShorter shape type whole m
  unfolding enc
  children_from same (ends unknown) h shorter = tt
  children_from same (holds number key leaf later) h shorter = children_from same later h.2 shorter.1
  children_from same (nests number key child later) h shorter = (
    each_at (λ (f : FieldShape). (t : TypeId) → f.element ≡ elements.Message t → nat_eq number f.number ≡ true → length (enc shape (child_type (fields shape type) number) child) < whole) fs number h.0.field (ap (λ gs. field_at gs number) same ∙ h.0.found) shorter.0
        h.1 h.2 (eq-eqb number h.0.field.number (sym (found_number (fields shape type) number h.0.field h.0.found))),
    children_from same later h.4 shorter.1,
  )

pub children_shorter : (shape : Shape) (type : TypeId) (m : Message) → IsMessage shape type m → IsFlat (length shape) (fields shape type) (encoded_parts shape type m) (unknown_of m) → ChildrenShorter shape type (length (enc shape type m)) m
unfolding enc
children_shorter shape type m h flat =
    let total = length-append (bytes_of (records_in (fields shape type) (encoded_parts shape type m))) (bytes_of (unknown_of m)) in
    let within : length (bytes_of (records_in (fields shape type) (encoded_parts shape type m))) ≤ length (enc shape type m) = omega (arith, total) in
    weaker within m (children_from shape type (fields shape type) (length (bytes_of (records_in (fields shape type) (encoded_parts shape type m)))) refl m h (each_part_shorter (length shape) (fields shape type) (encoded_parts shape type m) (unknown_of m) flat))
  where
    weaker : {a b : ℕ} → a ≤ b → (v : Message) → ChildrenShorter shape type a v → ChildrenShorter shape type b v
    weaker below (ends unknown) g = tt
    weaker below (holds number key leaf later) g = weaker below later g
    weaker below (nests number key child later) g = (let first = g.0 in omega arith, weaker below later g.1)
