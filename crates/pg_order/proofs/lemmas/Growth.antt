-- A message with one child alone is no longer than one with that child, or a longer one, and others.
use Rattle.std.proofs.Common.{◌≡◌, ℕ, ◌≤◌, List, [], ◌∷◌, map, filter, flat_map, length, true, false, cond, nat_eq, Option, ap, arith, length-append}
use Rattle.pg_schema.specs.declared.parts.field.Scalar.{Scalar}
use Rattle.pg_schema.specs.declared.parts.field.Element.{Element}
use Rattle.pg_schema.specs.declared.parts.field.Element.TheVariants as elements
use Rattle.pg_schema.specs.declared.parts.field.Presence.{Presence}
use Rattle.pg_schema.specs.declared.parts.field.Presence.TheVariants as presences
use Rattle.pg_schema.specs.Shape.{FieldShape}
use Rattle.pg_wire.specs.declared.record.WireType.TheVariants.{Len}
use Rattle.pg_wire.specs.Records.{WireRecord, written}
use Rattle.pg_wire.proofs.Lengths.{length-written_grows}
use Rattle.pg_dyn.specs.message.Message.{Leaf, Bytes, Part, is_of}
use Rattle.pg_dyn.specs.word.Coding.{Form, Integer, Single, Double, Text, Raw, body, form, form_wire}
use Rattle.pg_dyn.specs.encoding.Writing.{bytes_of, entry_bytes, field_records, item_record, key_of, records_in}
use Rattle.pg_dyn.proofs.Lists.{flat_map-append'}
use Rattle.pg_dyn.proofs.lemmas.reading.Fields.{field_of}
use Rattle.pg_dyn.proofs.lemmas.reading.records.Splitting.{field_records_none}

module _ (number : ℕ) (key : Option Leaf) (few many : List ℕ) (shorter : length few ≤ length many) where
  abbrev one : List ℕ → Part Leaf
  one b = record { number = number; key = key; item = Bytes b }

  form_grows : (n : ℕ) (x : Form) → length (written n (form_wire x) (body x (Bytes few))).bytes ≤ length (written n (form_wire x) (body x (Bytes many))).bytes
  form_grows n (Integer whole) = omega arith
  form_grows n Single = omega arith
  form_grows n Double = omega arith
  form_grows n Text = length-written_grows n few many shorter
  form_grows n Raw = length-written_grows n few many shorter

  body_grows : (x : Form) → length (body x (Bytes few)) ≤ length (body x (Bytes many))
  body_grows (Integer whole) = omega arith
  body_grows Single = omega arith
  body_grows Double = omega arith
  body_grows Text = shorter
  body_grows Raw = shorter

  item_grows : (n : ℕ) (e : Element) → length (item_record n e (Bytes few)).bytes ≤ length (item_record n e (Bytes many)).bytes
  item_grows n e = form_grows n (form e)

  entry_grows : (n : ℕ) (k : Scalar) (e : Element) → length (written n Len (entry_bytes k e (key_of k (one few)) (Bytes few))).bytes ≤ length (written n Len (entry_bytes k e (key_of k (one many)) (Bytes many))).bytes
  entry_grows n k e =
      length-written_grows n (entry_bytes k e (key_of k (one few)) (Bytes few)) (entry_bytes k e (key_of k (one many)) (Bytes many))
      (omega (arith, length-append (item_record 1 (elements.Scalar k) (key_of k (one few))).bytes (item_record 2 e (Bytes few)).bytes, length-append (item_record 1 (elements.Scalar k) (key_of k (one many))).bytes (item_record 2 e (Bytes many)).bytes, item_grows 2 e))

  first_grows : (r s : WireRecord) (ss : List WireRecord) → length r.bytes ≤ length s.bytes → length (bytes_of (r ∷ [])) ≤ length (bytes_of (s ∷ ss))
  first_grows r s ss h = omega (arith, length-append r.bytes [], length-append s.bytes (bytes_of ss))

  of_field_grows : (n : ℕ) (p : Presence) (e : Element) (o : Option ℕ) (ps : List (Part Leaf)) → length (bytes_of (field_records (field_of n p e o) (one few ∷ []))) ≤ length (bytes_of (field_records (field_of n p e o) (one many ∷ ps)))
  of_field_grows n presences.Implicit e o ps = first_grows (item_record n e (Bytes few)) (item_record n e (Bytes many)) (map (λ (p : Part Leaf). item_record n e p.item) ps) (item_grows n e)
  of_field_grows n presences.Explicit e o ps = first_grows (item_record n e (Bytes few)) (item_record n e (Bytes many)) (map (λ (p : Part Leaf). item_record n e p.item) ps) (item_grows n e)
  of_field_grows n (presences.Repeated false) e o ps = first_grows (item_record n e (Bytes few)) (item_record n e (Bytes many)) (map (λ (p : Part Leaf). item_record n e p.item) ps) (item_grows n e)
  of_field_grows n (presences.Repeated true) e o ps =
      let bodies = flat_map (λ (q : Part Leaf). body (form e) q.item) in
      first_grows (written n Len (bodies (one few ∷ []))) (written n Len (bodies (one many ∷ ps))) []
      (length-written_grows n (bodies (one few ∷ [])) (bodies (one many ∷ ps)) (omega (arith, length-append (body (form e) (Bytes few)) [], length-append (body (form e) (Bytes many)) (bodies ps), body_grows (form e))))
  of_field_grows n (presences.Map k) e o ps =
      first_grows (written n Len (entry_bytes k e (key_of k (one few)) (Bytes few))) (written n Len (entry_bytes k e (key_of k (one many)) (Bytes many))) (map (λ (p : Part Leaf). written n Len (entry_bytes k e (key_of k p) p.item)) ps) (entry_grows n k e)

  own_grows : (f : FieldShape) (ps : List (Part Leaf)) → length (bytes_of (field_records f (filter (is_of f.number) (one few ∷ [])))) ≤ length (bytes_of (field_records f (filter (is_of f.number) (one many ∷ ps))))
  own_grows f ps =
      elim (nat_eq number f.number) as (λ b. length (bytes_of (field_records f (cond b (one few ∷ []) []))) ≤ length (bytes_of (field_records f (cond b (one many ∷ filter (is_of f.number) ps) (filter (is_of f.number) ps))))) [
        | true ↦ of_field_grows f.number f.presence f.element f.oneof (filter (is_of f.number) ps)
        | false ↦ let none : length (bytes_of (field_records f [])) ≡ 0 = ap (λ rs. length (bytes_of rs)) (field_records_none f) in omega arith
      ]

  pub one_shorter : (fs : List FieldShape) (ps : List (Part Leaf)) → length (bytes_of (records_in fs (one few ∷ []))) ≤ length (bytes_of (records_in fs (one many ∷ ps)))
  one_shorter [] ps = omega arith
  one_shorter (f ∷ fs) ps =
      let own_few = field_records f (filter (is_of f.number) (one few ∷ [])) in
      let own_many = field_records f (filter (is_of f.number) (one many ∷ ps)) in
      omega (
        arith,
        own_grows f ps,
        one_shorter fs ps,
        ap length (flat_map-append' (λ (r : WireRecord). r.bytes) own_few (records_in fs (one few ∷ []))),
        ap length (flat_map-append' (λ (r : WireRecord). r.bytes) own_many (records_in fs (one many ∷ ps))),
        length-append (bytes_of own_few) (bytes_of (records_in fs (one few ∷ []))),
        length-append (bytes_of own_many) (bytes_of (records_in fs (one many ∷ ps))),
      )

-- Another part makes no field's records shorter.
more_of_field : (n : ℕ) (p : Presence) (e : Element) (o : Option ℕ) (x : Part Leaf) (ps : List (Part Leaf)) → length (bytes_of (field_records (field_of n p e o) ps)) ≤ length (bytes_of (field_records (field_of n p e o) (x ∷ ps)))
more_of_field n presences.Implicit e o x ps = omega (arith, length-append (item_record n e x.item).bytes (bytes_of (map (λ (p : Part Leaf). item_record n e p.item) ps)))
more_of_field n presences.Explicit e o x ps = omega (arith, length-append (item_record n e x.item).bytes (bytes_of (map (λ (p : Part Leaf). item_record n e p.item) ps)))
more_of_field n (presences.Repeated false) e o x ps = omega (arith, length-append (item_record n e x.item).bytes (bytes_of (map (λ (p : Part Leaf). item_record n e p.item) ps)))
more_of_field n (presences.Repeated true) e o x [] = omega arith
more_of_field n (presences.Repeated true) e o x (y ∷ ps) =
    let bodies = flat_map (λ (q : Part Leaf). body (form e) q.item) in
    omega (
      arith,
      length-written_grows n (bodies (y ∷ ps)) (bodies (x ∷ y ∷ ps)) (omega (arith, length-append (body (form e) x.item) (bodies (y ∷ ps)))),
      length-append (written n Len (bodies (y ∷ ps))).bytes [],
      length-append (written n Len (bodies (x ∷ y ∷ ps))).bytes [],
    )
more_of_field n (presences.Map k) e o x ps =
    omega (arith, length-append (written n Len (entry_bytes k e (key_of k x) x.item)).bytes (bytes_of (map (λ (p : Part Leaf). written n Len (entry_bytes k e (key_of k p) p.item)) ps)))

more_of_own : (f : FieldShape) (x : Part Leaf) (ps : List (Part Leaf)) → length (bytes_of (field_records f (filter (is_of f.number) ps))) ≤ length (bytes_of (field_records f (filter (is_of f.number) (x ∷ ps))))
more_of_own f x ps =
    elim (nat_eq x.number f.number) as (λ b. length (bytes_of (field_records f (filter (is_of f.number) ps))) ≤ length (bytes_of (field_records f (cond b (x ∷ filter (is_of f.number) ps) (filter (is_of f.number) ps)))))
    [ true ↦ more_of_field f.number f.presence f.element f.oneof x (filter (is_of f.number) ps) | false ↦ omega arith ]

pub part_more : (fs : List FieldShape) (x : Part Leaf) (ps : List (Part Leaf)) → length (bytes_of (records_in fs ps)) ≤ length (bytes_of (records_in fs (x ∷ ps)))
part_more [] x ps = omega arith
part_more (f ∷ fs) x ps =
    let own = field_records f (filter (is_of f.number) ps) in
    let own_more = field_records f (filter (is_of f.number) (x ∷ ps)) in
    omega (
      arith,
      more_of_own f x ps,
      part_more fs x ps,
      ap length (flat_map-append' (λ (r : WireRecord). r.bytes) own (records_in fs ps)),
      ap length (flat_map-append' (λ (r : WireRecord). r.bytes) own_more (records_in fs (x ∷ ps))),
      length-append (bytes_of own) (bytes_of (records_in fs ps)),
      length-append (bytes_of own_more) (bytes_of (records_in fs (x ∷ ps))),
    )
