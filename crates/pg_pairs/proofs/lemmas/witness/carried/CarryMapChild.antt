-- Messages that reach a child in a map's value.
use Rattle.std.proofs.Common.{◌≡◌, ℕ, ◌+◌, ◌<◌, ◌≤◌, ◌^◌, List, [], ◌∷◌, ◌++◌, length, Bool, false, Option, Some, inr, refl, ap, ap₂, sym, ◌∙◌, subst, arith, append-nil, length-append, inl, true, rules}
use Rattle.pg_schema.specs.declared.parts.field.TypeId.{TypeId}
use Rattle.pg_schema.specs.declared.parts.field.Scalar.{Scalar}
use Rattle.pg_schema.specs.declared.parts.field.Element.TheVariants as elements
use Rattle.pg_schema.specs.declared.parts.field.Presence.TheVariants as presences
use Rattle.pg_schema.specs.Shape.{Shape, FieldShape, fields, field_at}
use Rattle.pg_schema.specs.ShapeRules.{IsShape}
use Rattle.pg_wire.specs.declared.record.WireType.TheVariants.{Len}
use Rattle.pg_wire.specs.Varint.{varint}
use Rattle.pg_wire.specs.Records.{tag, written}
use Rattle.pg_dyn.specs.message.Message.{Leaf, Bytes, Item, Message, ends, nests, unknown_of}
use Rattle.pg_dyn.specs.word.Coding.{form, zero_leaf, InRange}
use Rattle.pg_dyn.specs.encoding.Writing.{entry_bytes, records_in, bytes_of}
use Rattle.pg_dyn.specs.encoding.Encoding.{child_type, encoded_parts, enc, cap}
use Rattle.pg_dyn.specs.reading.Decoding.{Reader, read_item, dec}
use Rattle.pg_dyn.specs.fitting.Belonging.{IsMessage}
use Rattle.pg_dyn.specs.views.Comparison.{matches, same_message, expected, unshared_bytes, Kept, Comparand}
use Rattle.pg_pairs.specs.declared.choices.choice.Pair.{Pair}
use Rattle.pg_pairs.specs.views.EnumView.{EnumView}
use Rattle.pg_pairs.specs.gaps.Gaps.{body_length}
use Rattle.pg_pairs.specs.gaps.TrueGaps.{is_seen, is_alike_read}
use Rattle.pg_pairs.specs.choices.Costs.{with_length, least_body, one_item, entry_cost}
use Rattle.pg_dyn.specs.laws.ByComparands.{is_field_kept}
use Rattle.pg_pairs.specs.bounds.Laws.{ReachedBy}
use Rattle.pg_pairs.specs.inner.Contents.{is_child_kept}
use Rattle.pg_pairs.proofs.lemmas.choices.Costs.{length-len_record}
use Rattle.pg_pairs.proofs.lemmas.bounds.Comparands.{length-entry_bytes}
use Rattle.pg_pairs.proofs.lemmas.bounds.Single.{single_length, single_broken}
use Rattle.pg_pairs.proofs.lemmas.bounds.ChildTests.{bytes_are, kept_is}
use Rattle.pg_pairs.proofs.lemmas.witness.carried.CarryLists.{zero_in_range, zero_length}
use Rattle.pg_pairs.proofs.lemmas.witness.EntriesRead.{entry_broken, entry_parts, child_value_read, like_key_read}
use Rattle.pg_pairs.specs.gaps.Likeness.{like}
use Rattle.pg_pairs.proofs.lemmas.gaps.Likeness.{like_wire}
use Rattle.pg_dyn.proofs.PublicLaws.{bodies_read_again, fields_are_found, own_contents}
use Rattle.pg_dyn.proofs.Lists.{option_map_some}

-- the empty message's body
pub empty_length : (s : TypeId) → body_length (form (elements.Message s)) (Bytes []) ≡ least_body (elements.Message s)
unfolding varint
empty_length s = refl

module _ (enum_view : EnumView) (old new : Shape) (shape_old : IsShape old) (shape_new : IsShape new) (pair : Pair) (number : ℕ) (s t : TypeId) (o r : Option ℕ) (k l : Scalar) where
  abbrev f : FieldShape
  f = record { number = number; presence = presences.Map k; element = elements.Message s; oneof = o }

  abbrev g : FieldShape
  g = record { number = number; presence = presences.Map l; element = elements.Message t; oneof = r }

  abbrev zero_key : Leaf
  zero_key = zero_leaf (form (elements.Scalar k))

  -- an entry with a child that isn't kept
  child_entry_broken : (child : Reader) (c : Comparand) (bytes : List ℕ) (test : Message → Bool) → c.number ≡ number → c.key ≡ Some zero_key → c.written ≡ Bytes bytes → c.expected ≡ Kept test → length (entry_bytes k (elements.Message s) zero_key (Bytes bytes)) < 2 ^ 64 → is_child_kept child t test bytes ≡ false → is_field_kept enum_view.alike child f g (c ∷ []) ≡ false
  child_entry_broken child c bytes test number_is key_is w so short broken =
      subst (λ x. is_field_kept enum_view.alike child f g (x ∷ []) ≡ false) same
      (entry_broken enum_view.alike child f g k l refl refl literal zero_key refl refl refl
      (λ x y h.
      let reads = bodies_read_again (elements.Scalar k) (zero_leaf (form (elements.Scalar k))) (zero_in_range (elements.Scalar k) tt) in
      let parts = entry_parts k l (elements.Message s) (elements.Message t) (zero_leaf (form (elements.Scalar k))) (Bytes bytes) (bodies_read_again (elements.Scalar k) (zero_leaf (form (elements.Scalar k))) (zero_in_range (elements.Scalar k) tt)) (record { read = refl; shape = tt }) refl number short x y h in
      let y_is = child_value_read k s t (zero_leaf (form (elements.Scalar k))) bytes (bodies_read_again (elements.Scalar k) (zero_leaf (form (elements.Scalar k))) (zero_in_range (elements.Scalar k) tt)) (record { read = refl; shape = tt }) y parts.1 in
      inr (λ item item_is. unmet item (subst (λ z. read_item child (elements.Message t) z ≡ Some item) (sym y_is) item_is))))
    where
      literal : Comparand
      literal = record { number = number; key = Some zero_key; written = Bytes bytes; expected = Kept test }

      same : literal ≡ c
      same = λ i. record { number = sym number_is i; key = sym key_is i; written = sym w i; expected = sym so i }

      unmet : (item : Item) → read_item child (elements.Message t) (Bytes bytes) ≡ Some item → matches enum_view.alike f g (Kept test) item ≡ false
      unmet item h = search (rules, option_map_some)

  pub reach_map_child : field_at (fields old pair.old) number ≡ Some f → field_at (fields new pair.new) number ≡ Some g → (child : Message) (x : ℕ) → ReachedBy enum_view old new (record { old = s; new = t }) child x → one_item f (with_length x) ≤ cap → ReachedBy enum_view old new pair (nests number (Some (zero_leaf (form (elements.Scalar k)))) child (ends [])) (one_item f (with_length x))
  reach_map_child found at child x (breaks, length_is) small =
      search (rules, is, short, single_broken, broken, whole)
    where
      v : Message
      v = nests number (Some zero_key) child (ends [])

      is : IsMessage old pair.old v
      is = (record { field = f; found = found; key_fits = zero_in_range (elements.Scalar k) tt; before = tt; alone = tt }, s, refl, breaks.is_message, tt)

      old_is : child_type (fields old pair.old) number ≡ s
      old_is = fields_are_found.3 (fields old pair.old) number f s found refl

      new_is : child_type (fields new pair.new) number ≡ t
      new_is = fields_are_found.3 (fields new pair.new) number g t at refl

      c : Comparand
      c = record {
        number = number;
        key = Some zero_key;
        written = Bytes (bytes_of (records_in (fields old (child_type (fields old pair.old) number)) (encoded_parts old (child_type (fields old pair.old) number) child)) ++ bytes_of (unknown_of child));
        expected = Kept (same_message enum_view.alike (fields old (child_type (fields old pair.old) number)) (fields new (child_type (fields new pair.new) number)) (expected enum_view.alike old new (child_type (fields old pair.old) number) (child_type (fields new pair.new) number) child) (unshared_bytes old (child_type (fields old pair.old) number) (fields new (child_type (fields new pair.new) number)) child));
      }

      bytes : List ℕ
      bytes = bytes_of (records_in (fields old s) (encoded_parts old s child)) ++ bytes_of (unknown_of child)

      written_is : c.written ≡ Bytes bytes
      written_is = ap (λ u. Bytes (bytes_of (records_in (fields old u) (encoded_parts old u child)) ++ bytes_of (unknown_of child))) old_is

      expected_is : c.expected ≡ Kept (same_message enum_view.alike (fields old s) (fields new t) (expected enum_view.alike old new s t child) (unshared_bytes old s (fields new t) child))
      expected_is = ap₂ (λ u w. Kept (same_message enum_view.alike (fields old u) (fields new w) (expected enum_view.alike old new u w child) (unshared_bytes old u (fields new w) child))) old_is new_is

      body_is : body_length (form (elements.Message s)) (Bytes bytes) ≡ with_length x
      body_is = length-append (varint (length bytes)) bytes ∙ ap (λ n. length (varint n) + n) (ap length (bytes_are old s child) ∙ length_is)

      entry_length : length (entry_bytes k (elements.Message s) zero_key (Bytes bytes)) ≡ 2 + least_body (elements.Scalar k) + with_length x
      entry_length = length-entry_bytes k (elements.Message s) zero_key (Bytes bytes) ∙ ap₂ (λ m n. 2 + m + n) (zero_length (elements.Scalar k) tt) body_is

      whole : length (enc old pair.old v) ≡ one_item f (with_length x)
      whole =
          single_length enum_view.alike old new shape_old pair.old pair.new v f refl found (refl, tt)
          ∙ ap length (append-nil (written number Len (entry_bytes k (elements.Message s) zero_key c.written)).bytes)
          ∙ length-len_record number (entry_bytes k (elements.Message s) zero_key c.written)
          ∙ ap (λ w. length (tag number Len) + with_length (length (entry_bytes k (elements.Message s) zero_key w))) written_is
          ∙ ap (λ n. length (tag number Len) + with_length n) entry_length

      short : length (enc old pair.old v) ≤ cap
      short = subst (λ n. n ≤ cap) (sym whole) small

      broken : is_field_kept enum_view.alike (dec new) f g (c ∷ []) ≡ false
      broken =
          child_entry_broken (dec new) c bytes _ refl refl written_is expected_is (omega (arith, entry_length))
          (kept_is enum_view.alike old new s t child ∙ breaks.not_kept)

  -- a gap in the key, with an empty child
  pub reach_key_gap_child : like (elements.Scalar k) (elements.Scalar l) ≡ true → field_at (fields old pair.old) number ≡ Some f → field_at (fields new pair.new) number ≡ Some g → (key : Leaf) → InRange (form (elements.Scalar k)) key → is_seen enum_view.alike (elements.Scalar k) (elements.Scalar l) key ≡ false → entry_cost number (body_length (form (elements.Scalar k)) key) (least_body (elements.Message s)) ≤ cap → ReachedBy enum_view old new pair (nests number (Some key) (ends []) (ends [])) (entry_cost number (body_length (form (elements.Scalar k)) key) (least_body (elements.Message s)))
  reach_key_gap_child like_keys found at key range unseen small =
      search (rules, is, short, single_broken, broken, whole)
    where
      v : Message
      v = nests number (Some key) (ends []) (ends [])

      is : IsMessage old pair.old v
      is = (record { field = f; found = found; key_fits = range; before = tt; alone = tt }, s, refl, tt, tt)

      test : Message → Bool
      test = same_message enum_view.alike (fields old (child_type (fields old pair.old) number)) (fields new (child_type (fields new pair.new) number)) [] (unshared_bytes old (child_type (fields old pair.old) number) (fields new (child_type (fields new pair.new) number)) (ends []))

      c : Comparand
      c = record { number = number; key = Some key; written = Bytes (bytes_of (records_in (fields old (child_type (fields old pair.old) number)) []) ++ []); expected = Kept test }

      literal : Comparand
      literal = record { number = number; key = Some key; written = Bytes []; expected = Kept test }

      written_is : c.written ≡ Bytes []
      written_is = ap (λ rs. Bytes (bytes_of rs ++ [])) (own_contents.0 (fields old (child_type (fields old pair.old) number)))

      entry_length : length (entry_bytes k (elements.Message s) key (Bytes [])) ≡ 2 + body_length (form (elements.Scalar k)) key + least_body (elements.Message s)
      entry_length = length-entry_bytes k (elements.Message s) key (Bytes []) ∙ ap (λ n. 2 + body_length (form (elements.Scalar k)) key + n) (empty_length s)

      whole : length (enc old pair.old v) ≡ entry_cost number (body_length (form (elements.Scalar k)) key) (least_body (elements.Message s))
      whole =
          single_length enum_view.alike old new shape_old pair.old pair.new v f refl found (refl, tt)
          ∙ ap length (append-nil (written number Len (entry_bytes k (elements.Message s) key c.written)).bytes)
          ∙ length-len_record number (entry_bytes k (elements.Message s) key c.written)
          ∙ ap (λ w. length (tag number Len) + with_length (length (entry_bytes k (elements.Message s) key w))) written_is
          ∙ ap (λ n. length (tag number Len) + with_length n) entry_length

      short : length (enc old pair.old v) ≤ cap
      short = subst (λ n. n ≤ cap) (sym whole) small

      fits : length (entry_bytes k (elements.Message s) key (Bytes [])) < 2 ^ 64
      fits = omega (arith, entry_length)

      broken : is_field_kept enum_view.alike (dec new) f g (c ∷ []) ≡ false
      broken =
          subst (λ w. is_field_kept enum_view.alike (dec new) f g (record { number = number; key = Some key; written = w; expected = Kept test } ∷ []) ≡ false) (sym written_is)
          (entry_broken enum_view.alike (dec new) f g k l refl refl literal key refl refl refl
          (λ x y h.
          let parts = entry_parts k l (elements.Message s) (elements.Message t) key (Bytes []) (bodies_read_again (elements.Scalar k) key range) (record { read = refl; shape = tt }) refl number fits x y h in
          let read = like_key_read k l (elements.Message s) (elements.Message t) key (Bytes []) (bodies_read_again (elements.Scalar k) key range) (record { read = refl; shape = tt }) refl (like_wire (elements.Scalar k) (elements.Scalar l) like_keys) x parts.0 in
          inl (subst (λ z. is_alike_read enum_view.alike (elements.Scalar k) (elements.Scalar l) key z ≡ false) read unseen)))
