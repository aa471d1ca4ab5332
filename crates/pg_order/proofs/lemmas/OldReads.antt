-- A type reads what may be written of its message, in whatever order, as that message.
use Rattle.std.proofs.Common.{◌≡◌, ℕ, ◌^◌, ◌<◌, ◌≤◌, inl, inr, ⊎_elim, List, [], ◌++◌, filter, length, true, false, nat_eq, Option, Some, Ok, refl, ap, ap₂, sym, subst, ◌∙◌, arith, append-nil, eq-eqb, length-append}
use Rattle.std.specs.List.{AllByRecursion}
use Rattle.std.proofs.lemmas.Bool.{and_from}
use Rattle.std.proofs.lemmas.List.{length-map}
use Rattle.pg_schema.specs.declared.parts.field.TypeId.{TypeId}
use Rattle.pg_schema.specs.declared.parts.field.Element.{Element}
use Rattle.pg_schema.specs.declared.parts.field.Presence.{Presence}
use Rattle.pg_schema.specs.declared.parts.field.Presence.TheVariants as presences
use Rattle.pg_schema.specs.Shape.{Shape, FieldShape, fields, field_at, is_map}
use Rattle.pg_schema.specs.ShapeRules.{IsField, IsShape, IsType, PresenceFits}
use Rattle.pg_wire.specs.Records.{WireRecord, IsRecord, records_of, written}
use Rattle.pg_wire.specs.declared.record.WireType.TheVariants.{Len}
use Rattle.pg_wire.proofs.RecordLaws.{records_of_Spells, Spells_from_records_of}
use Rattle.pg_dyn.specs.message.Message.{Leaf, Message, ends, holds, nests, Part, parts, message_from, unknown_of, is_of}
use Rattle.pg_dyn.specs.reading.Content.{counted, content, is_accepted, takes}
use Rattle.pg_dyn.specs.encoding.Writing.{entry_bytes, field_records, key_of, records_in, bytes_of}
use Rattle.pg_dyn.specs.encoding.Encoding.{child_type, enc}
use Rattle.pg_dyn.specs.reading.Decoding.{field_parts, read_records, dec}
use Rattle.pg_dyn.specs.fitting.Belonging.{IsMessage, IsUnknown}
use Rattle.pg_dyn.specs.laws.Laws.{of_number}
use Rattle.pg_dyn.specs.laws.OwnParts.{ChildrenShorter}
use Rattle.pg_dyn.proofs.Lists.{all_some-map, each_at, each_both, each_weaker, filter-append', filter-filter_weaker, filter_all, filter_none, flat_map-append'}
use Rattle.pg_dyn.proofs.lemmas.fitting.Belonging.{child_type_is, fields-IsType, is_flat, unknown_fits}
use Rattle.pg_dyn.proofs.lemmas.laws.Flat.{IsFlat, Known, contents_again, counted_again, each_known, one_is_empty, own_each, own_records, records_again, unknown_again, unknown_not_taken}
use Rattle.pg_dyn.proofs.lemmas.laws.Order.{NeverFalls, never_falls, of_each_is, places-parts}
use Rattle.pg_dyn.proofs.lemmas.laws.Shorter.{children_shorter}
use Rattle.pg_dyn.proofs.lemmas.message.KeyLaws.{each_moved}
use Rattle.pg_dyn.proofs.lemmas.reading.Depth.{dec_is}
use Rattle.pg_dyn.proofs.lemmas.reading.Fields.{IsOwn, field_of}
use Rattle.pg_dyn.proofs.lemmas.reading.records.Readable.{ChildReads, all_readable_again}
use Rattle.pg_dyn.proofs.lemmas.reading.records.Splitting.{field_records_none, records_of_number, takes_number}
use Rattle.pg_order.specs.MayWrite.{IsReordered, MayBeParts, MayWrite}
use Rattle.pg_order.proofs.lemmas.Moved.{length-flat_moved}
use Rattle.pg_order.proofs.lemmas.Lengths.{one_length}
use Rattle.pg_order.proofs.lemmas.PartsRead.{PartsRead, children_read, flat_read, message_from-parts, parts_again}
use Rattle.pg_order.proofs.lemmas.Reordered.{IsWholeMap, MapsAreWhole, NoneMeetIn, reordered_read}

-- The records that a field takes are those that were written of it.
module _ (types : ℕ) (fs : List FieldShape) (ps : List (Part Leaf)) (us : List WireRecord) (flat : IsFlat types fs ps us) where
  abbrev old : List WireRecord
  old = records_in fs ps ++ us

  takes_own : (f : FieldShape) (r : WireRecord) → IsOwn f r → takes f r ≡ true
  takes_own f r own = and_from (nat_eq r.number f.number) (is_accepted f r) (eq-eqb r.number f.number own.number_is) own.accepted

  taken : (f : FieldShape) → Known types fs f → filter (takes f) old ≡ own_records types fs ps us flat f
  taken f known =
      filter-append' (takes f) (records_in fs ps) us
      ∙ ap₂ (λ xs ys. xs ++ ys)
      (sym (filter-filter_weaker (of_number f.number) (takes f) (takes_number f) (records_in fs ps))
      ∙ ap (filter (takes f)) (records_of_number ps fs f.number f flat.type.rising known.0)
      ∙ filter_all (takes f) (own_records types fs ps us flat f) (each_weaker (IsOwn f) (λ r. takes f r ≡ true) (takes_own f) (own_records types fs ps us flat f) (own_each types fs ps us flat f known)))
      (filter_none (takes f) us (each_weaker (IsUnknown fs) (λ u. takes f u ≡ false) (λ u h. each_at (λ g. takes g u ≡ false) fs f.number f known.0 (unknown_not_taken fs u h)) us flat.unknown))
      ∙ append-nil (own_records types fs ps us flat f)

  known_at : (f : FieldShape) → field_at fs f.number ≡ Some f → Known types fs f
  known_at f found = (found, each_at (IsField types) fs f.number f found flat.type.each)

  none_of : (f : FieldShape) → field_at fs f.number ≡ Some f → filter (is_of f.number) ps ≡ [] → filter (takes f) old ≡ []
  none_of f found none = taken f (known_at f found) ∙ ap (field_records f) none ∙ field_records_none f

  pub own_apart : NoneMeetIn fs old
  own_apart f g at_f at_g sibling = ⊎_elim (λ none. inl (none_of f at_f none)) (λ none. inr (none_of g at_g none)) (one_is_empty fs f g at_f at_g sibling ps flat.parts)

  map_here : (n : ℕ) (p : Presence) (e : Element) (oneof : Option ℕ) → PresenceFits p e oneof → is_map p ≡ true → (qs : List (Part Leaf)) → content (field_of n p e oneof) (field_records (field_of n p e oneof) qs) ≡ Some qs
      → IsWholeMap (field_of n p e oneof) (field_records (field_of n p e oneof) qs)
  map_here n presences.Implicit e oneof fits is qs read = absurd (cc)
  map_here n presences.Explicit e oneof fits is qs read = absurd (cc)
  map_here n (presences.Repeated packed) e oneof fits is qs read = absurd (cc)
  map_here n (presences.Map key) e oneof fits is qs read = record {
    key = key;
    is_map = refl;
    is_key = fits.1;
    parts = qs;
    content_is = read;
    all_there = omega (arith, length-map qs (λ (p : Part Leaf). written n Len (entry_bytes key e (key_of key p) p.item)));
  }

  pub own_maps : MapsAreWhole fs fs old
  own_maps g found is =
      let known = known_at g found in
      let read : content g (own_records types fs ps us flat g) ≡ Some (filter (is_of g.number) ps) =
      subst (λ rs. content g rs ≡ Some (filter (is_of g.number) ps)) (counted_again types fs ps us flat g known)
      (each_at (λ f. content f (counted fs f old) ≡ Some (filter (is_of f.number) ps)) fs g.number g found (contents_again types fs ps us flat)) in
      let map_field : is_map g.presence ≡ true = rw found at is in
      inr (subst (IsWholeMap g) (sym (taken g known)) (map_here g.number g.presence g.element g.oneof known.1.presence_fits map_field (filter (is_of g.number) ps) read))

module _ (shape : Shape) (is_shape : IsShape shape) where
  -- What was written of the parts, in whatever order, are records.
  pub written_flat : (type : TypeId) (m : Message) → IsMessage shape type m → (ps : List (Part Leaf)) → PartsRead (dec shape) (fields shape type) m ps → (rs : List WireRecord) → IsReordered (fields shape type) (records_in (fields shape type) ps ++ unknown_of m) rs → length (bytes_of rs) < 2 ^ 64 → IsFlat (length shape) (fields shape type) ps (unknown_of m)
  written_flat type m h ps again rs reordered short = record {
    type = fields-IsType shape type is_shape;
    parts = flat_read (dec shape) shape type (fields-IsType shape type is_shape) m h ps again;
    unknown = unknown_fits shape type m h;
    short = omega (arith, short, length-flat_moved (λ (r : WireRecord). r.bytes) (records_in (fields shape type) ps ++ unknown_of m) rs reordered.same, ap length (flat_map-append' (λ (r : WireRecord). r.bytes) (records_in (fields shape type) ps) (unknown_of m)), length-append (bytes_of (records_in (fields shape type) ps)) (bytes_of (unknown_of m)));
  }

  pub written_records : (type : TypeId) (m : Message) (ps : List (Part Leaf)) → IsFlat (length shape) (fields shape type) ps (unknown_of m) → (rs : List WireRecord) → IsReordered (fields shape type) (records_in (fields shape type) ps ++ unknown_of m) rs → records_of (bytes_of rs) ≡ Ok rs
  written_records type m ps flat rs reordered =
      records_of_Spells (bytes_of rs) rs
      (record {
        joined = refl;
        each = each_moved IsRecord (records_in (fields shape type) ps ++ unknown_of m) rs reordered.same (Spells_from_records_of _ (records_in (fields shape type) ps ++ unknown_of m) (records_again (length shape) (fields shape type) ps (unknown_of m) flat)).each;
      })

  -- One level: where each child is read again from its bytes, the message is, in whatever order.
  level_read : (type : TypeId) (m : Message) → IsMessage shape type m → (ps : List (Part Leaf)) → PartsRead (dec shape) (fields shape type) m ps → (rs : List WireRecord) → IsReordered (fields shape type) (records_in (fields shape type) ps ++ unknown_of m) rs → length (bytes_of rs) < 2 ^ 64
      → dec shape type (bytes_of rs) ≡ Some m
  level_read type m h ps again rs reordered short =
      dec_is shape type (bytes_of rs)
      ∙ rw records
      (reordered_read (dec shape) fs fs (records_in fs ps ++ us) rs flat.type.rising reordered (own_apart types fs ps us flat) (own_maps types fs ps us flat) m in_order
      ∙ ap (λ xs. Some (message_from (parts m) xs)) (reordered.unknown ∙ unknown_again types fs ps us flat)
      ∙ ap Some (message_from-parts m))
    where
      types : ℕ
      types = length shape

      fs : List FieldShape
      fs = fields shape type

      us : List WireRecord
      us = unknown_of m

      is_type : IsType types fs
      is_type = fields-IsType shape type is_shape

      flat : IsFlat types fs ps us
      flat = written_flat type m h ps again rs reordered short

      read : AllByRecursion (λ f. AllByRecursion (λ q. ChildReads (dec shape) f.element q.item) (filter (is_of f.number) ps)) fs
      read = each_weaker (Known types fs) (λ f. AllByRecursion (λ q. ChildReads (dec shape) f.element q.item) (filter (is_of f.number) ps)) (λ f known. children_read (dec shape) shape type is_type f known.0 m h ps again) fs (each_known types fs is_type)

      each : AllByRecursion (λ f. field_parts (dec shape) fs (records_in fs ps ++ us) f ≡ Some (filter (is_of f.number) (parts m))) fs
      each =
          each_weaker (λ f. Known types fs f × (content f (counted fs f (records_in fs ps ++ us)) ≡ Some (filter (is_of f.number) ps))) (λ f. field_parts (dec shape) fs (records_in fs ps ++ us) f ≡ Some (filter (is_of f.number) (parts m)))
          (λ f k. rw k.1 (parts_again (dec shape) shape type is_type f k.0.0 m h ps again)) fs
          (each_both (Known types fs) (λ f. content f (counted fs f (records_in fs ps ++ us)) ≡ Some (filter (is_of f.number) ps)) fs (each_known types fs is_type) (contents_again types fs ps us flat))

      in_order : read_records (dec shape) fs (records_in fs ps ++ us) ≡ Some m
      in_order =
          rw (all_readable_again (dec shape) types fs ps us flat read, all_some-map (field_parts (dec shape) fs (records_in fs ps ++ us)) (λ f. filter (is_of f.number) (parts m)) fs each, unknown_again types fs ps us flat)
          (ap Some (ap (λ qs. message_from qs us) (of_each_is fs (parts m) is_type.rising (subst (NeverFalls fs) (sym (places-parts m)) (never_falls shape type m h))) ∙ message_from-parts m))

      records : records_of (bytes_of rs) ≡ Ok rs
      records = written_records type m ps flat rs reordered

  -- The children of a message are read from what may be written of them.
  pub parts_read : (type : TypeId) (n : ℕ) (m : Message) → IsMessage shape type m → n ≤ 2 ^ 64 → ChildrenShorter shape type n m → (ps : List (Part Leaf)) → MayBeParts shape type m ps → PartsRead (dec shape) (fields shape type) m ps
  parts_read type n (ends unknown) h small shorter ps is = is
  parts_read type n (holds number key leaf later) h small shorter ps (qs, is, rest) = (qs, is, parts_read type n later h.2 small shorter qs rest)
  parts_read type n (nests number key c later) h small shorter ps (qs, bytes, is, w, rest) =
      let of = child_type (fields shape type) number in
      let is_child : IsMessage shape of c = subst (λ t. IsMessage shape t c) (sym (child_type_is (fields shape type) number h.0.field h.1 h.0.found h.2)) h.3 in
      let less : length (enc shape of c) < n = shorter.0 in
      let short : length (enc shape of c) < 2 ^ 64 = omega arith in
      let many : length bytes ≡ length (enc shape of c) = one_length shape of c bytes w in
      let few : length (bytes_of w.records) < 2 ^ 64 = omega (arith, ap length w.bytes_are) in
      let inside : PartsRead (dec shape) (fields shape of) c w.parts =
      parts_read of (length (enc shape of c)) c is_child (omega arith) (children_shorter shape of c is_child (is_flat shape of (fields-IsType shape of is_shape) c is_child short)) w.parts w.are_parts in
      (qs, bytes, is, ap (dec shape of) w.bytes_are ∙ level_read of c is_child w.parts inside w.records w.reordered few, parts_read type n later h.4 small shorter.1 qs rest)

  pub reads_any_order : (type : TypeId) (m : Message) (bytes : List ℕ) → IsMessage shape type m → length (enc shape type m) < 2 ^ 64 → MayWrite shape type m bytes → dec shape type bytes ≡ Some m
  reads_any_order type m bytes h short w =
      let many : length bytes ≡ length (enc shape type m) = one_length shape type m bytes w in
      let few : length (bytes_of w.records) < 2 ^ 64 = omega (arith, ap length w.bytes_are) in
      ap (dec shape type) w.bytes_are
      ∙ level_read type m h w.parts
      (parts_read type (length (enc shape type m)) m h (omega arith) (children_shorter shape type m h (is_flat shape type (fields-IsType shape type is_shape) m h short)) w.parts w.are_parts)
      w.records w.reordered few
