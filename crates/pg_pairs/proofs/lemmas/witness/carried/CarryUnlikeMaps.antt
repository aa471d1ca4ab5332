-- Messages that reach the choice of two maps whose keys or values are unlike: one entry, whose unlike part isn't read as itself.
use Rattle.std.proofs.Common.{◌≡◌, ℕ, pos, ◌+◌, ◌<◌, ◌≤◌, ◌^◌, List, [], ◌∷◌, ◌++◌, length, Bool, false, nat_eq, Option, Some, None, ◌⊎◌, inl, inr, ⊎_elim, refl, ap, sym, ◌∙◌, subst, arith, append-nil, rules}
use Rattle.std.specs.List.{AllByRecursion}
use Rattle.std.proofs.lemmas.Bool.{and_left, and_right, cases_Bool}
use Rattle.pg_schema.specs.declared.parts.field.TypeId.{TypeId}
use Rattle.pg_schema.specs.declared.parts.field.Scalar.{Scalar}
use Rattle.pg_schema.specs.declared.parts.field.Scalar.TheVariants as scalars
use Rattle.pg_schema.specs.declared.parts.field.Element.{Element}
use Rattle.pg_schema.specs.declared.parts.field.Element.TheVariants as elements
use Rattle.pg_schema.specs.declared.parts.field.Presence.TheVariants as presences
use Rattle.pg_schema.specs.Shape.{Shape, FieldShape, fields, field_at}
use Rattle.pg_schema.specs.ShapeRules.{IsShape}
use Rattle.pg_wire.specs.declared.record.WireType.TheVariants.{Len}
use Rattle.pg_wire.specs.Varint.{varint}
use Rattle.pg_wire.specs.Records.{WireRecord, tag, written}
use Rattle.pg_dyn.specs.reading.Optional.{first_or}
use Rattle.pg_dyn.specs.message.Message.{Leaf, Int, Bytes, Item, Plain, Message, ends, holds, nests, leaf_eq}
use Rattle.pg_dyn.specs.word.Coding.{Form, Integer, Single, Double, Text, Raw, form, form_wire, word_bytes, zero_leaf, InRange}
use Rattle.pg_dyn.specs.reading.Content.{same_wire, is_accepted, takes, key_field, value_field, entry_part}
use Rattle.pg_dyn.specs.encoding.Writing.{item_record, entry_bytes, records_in, bytes_of}
use Rattle.pg_dyn.specs.encoding.Encoding.{child_type, enc, cap}
use Rattle.pg_dyn.specs.reading.Decoding.{read_item, dec}
use Rattle.pg_dyn.specs.fitting.Belonging.{IsMessage}
use Rattle.pg_dyn.specs.views.Comparison.{View, Alike, matches, same_message, unshared_bytes, Kept, Comparand}
use Rattle.pg_dyn.proofs.Lists.{filter_none, option_map_some}
use Rattle.pg_pairs.proofs.lemmas.bounds.Packed.{Reads}
use Rattle.pg_dyn.specs.laws.Bodies.{IsNestedLeaf}
use Rattle.pg_pairs.proofs.lemmas.witness.EntryRecords.{two_records}
use Rattle.pg_pairs.specs.declared.choices.choice.Pair.{Pair}
use Rattle.pg_pairs.specs.views.EnumView.{EnumView}
use Rattle.pg_pairs.specs.gaps.Likeness.{like}
use Rattle.pg_pairs.specs.gaps.Gaps.{body_length}
use Rattle.pg_pairs.specs.choices.Costs.{with_length, least_body, entry_cost}
use Rattle.pg_dyn.specs.laws.ByComparands.{is_field_kept}
use Rattle.pg_pairs.specs.bounds.Laws.{ReachedBy}
use Rattle.pg_pairs.specs.witness.Carried.{far_leaf}
use Rattle.pg_pairs.proofs.lemmas.gaps.Leaves.{alike_equal}
use Rattle.pg_pairs.proofs.lemmas.gaps.GapItems.{IsLeafy}
use Rattle.pg_pairs.proofs.lemmas.choices.Costs.{length-len_record}
use Rattle.pg_pairs.proofs.lemmas.bounds.Comparands.{leafy_reader, length-entry_bytes}
use Rattle.pg_pairs.proofs.lemmas.bounds.Single.{single_length, single_broken}
use Rattle.pg_pairs.proofs.lemmas.gaps.KindsRead.{kind, form_kind, IsOfForm, content_kind}
use Rattle.pg_pairs.proofs.lemmas.witness.carried.CarryWires.{unlike_leaves}
use Rattle.pg_pairs.proofs.lemmas.witness.carried.CarryLists.{zero_in_range}
use Rattle.pg_pairs.proofs.lemmas.witness.carried.CarryMaps.{nested, reach_entry}
use Rattle.pg_pairs.proofs.lemmas.witness.carried.CarryMapChild.{empty_length}
use Rattle.pg_pairs.proofs.lemmas.witness.EntriesRead.{entry_broken, entry_parts}
use Rattle.pg_dyn.proofs.PublicLaws.{bodies_read_again, equal_leaves, own_contents}

pub far_in_range : (e : Element) → IsLeafy e → InRange (form e) (far_leaf (form e))
far_in_range (elements.Scalar scalars.String) leafy = zero_in_range (elements.Scalar scalars.String) tt
far_in_range (elements.Scalar scalars.Bytes) leafy = tt
far_in_range (elements.Scalar s) leafy = omega arith
far_in_range (elements.Enum s) leafy = omega arith
far_in_range (elements.Message t) leafy = absurd leafy

pub far_length : (e : Element) → IsLeafy e → body_length (form e) (far_leaf (form e)) ≡ least_body e
unfolding word_bytes varint
far_length (elements.Scalar scalars.String) leafy = refl
far_length (elements.Scalar s) leafy = refl
far_length (elements.Enum s) leafy = refl
far_length (elements.Message t) leafy = absurd leafy

far_kind : (f : Form) → IsOfForm f (far_leaf f)
far_kind (Integer w) = refl
far_kind Single = refl
far_kind Double = refl
far_kind Text = refl
far_kind Raw = refl

zero_kind : (f : Form) → IsOfForm f (zero_leaf f)
zero_kind (Integer w) = refl
zero_kind Single = refl
zero_kind Double = refl
zero_kind Text = refl
zero_kind Raw = refl

-- What an entry's part is read as is of the reader's kind, its default too.

first_kind : (f : Form) (leaves : List Leaf) → AllByRecursion (IsOfForm f) leaves → IsOfForm f (first_or (zero_leaf f) leaves)
first_kind f [] h = zero_kind f
first_kind f (x ∷ xs) h = h.0

abbrev part_field : ℕ → Element → FieldShape
part_field n d = record { number = n; presence = presences.Explicit; element = d; oneof = None }

part_kind : (n : ℕ) (d : Element) → IsLeafy d → (rs : List WireRecord) (y : Leaf) → entry_part (part_field n d) rs ≡ Some y → IsOfForm (form d) y
part_kind n d leafy rs y h = search (rules, option_map_some, first_kind, content_kind)

-- without a record the part is its default
part_default : (n : ℕ) (d : Element) → IsLeafy d → (rs : List WireRecord) → AllByRecursion (λ r. takes (part_field n d) r ≡ false) rs → entry_part (part_field n d) rs ≡ Some (zero_leaf (form d))
part_default n (elements.Scalar s) leafy rs h = rw (filter_none (takes (part_field n (elements.Scalar s))) rs h)
part_default n (elements.Enum s) leafy rs h = rw (filter_none (takes (part_field n (elements.Enum s))) rs h)
part_default n (elements.Message t) leafy rs h = absurd leafy

untaken_own : (m n : ℕ) (e d : Element) (leaf : Leaf) → same_wire (form_wire (form e)) (form_wire (form d)) ≡ false → takes (part_field n d) (item_record m e leaf) ≡ false
unfolding written
untaken_own m n e d leaf wires = search (rules, and_left, and_right)

untaken_other : (m n : ℕ) (e d : Element) (leaf : Leaf) → nat_eq m n ≡ false → takes (part_field n d) (item_record m e leaf) ≡ false
unfolding written
untaken_other m n e d leaf apart = and_left (nat_eq m n) (is_accepted (part_field n d) (item_record m e leaf)) apart

not_equal : (a b : Leaf) → (a ≡ b → ⊥) → leaf_eq a b ≡ false
not_equal a b apart = ⊎_elim (λ same. absurd (apart ((equal_leaves a b).0 same))) (λ no. no) (cases_Bool (leaf_eq a b))

-- an integer's form
int_far : (f : Form) → form_kind f ≡ 0 → far_leaf f ≡ Int (pos 1)
int_far (Integer w) h = refl
int_far Single h = absurd (omega arith)
int_far Double h = absurd (omega arith)
int_far Text h = absurd (omega arith)
int_far Raw h = absurd (omega arith)

int_zero : (f : Form) → form_kind f ≡ 0 → zero_leaf f ≡ Int (pos 0)
int_zero (Integer w) h = refl
int_zero Single h = absurd (omega arith)
int_zero Double h = absurd (omega arith)
int_zero Text h = absurd (omega arith)
int_zero Raw h = absurd (omega arith)

-- An unlike part isn't read as itself: what is read is of another kind, or the default in place of 1.
part_differs : (n : ℕ) (e d : Element) → IsLeafy e → IsLeafy d → like e d ≡ false → (rs : List WireRecord) → (same_wire (form_wire (form e)) (form_wire (form d)) ≡ false → AllByRecursion (λ r. takes (part_field n d) r ≡ false) rs) → (y : Leaf) → entry_part (part_field n d) rs ≡ Some y → far_leaf (form e) ≡ y → ⊥
part_differs n e d leafy leafy_new unlike rs untaken y h same =
    ⊎_elim
    (λ other. other (sym (far_kind (form e)) ∙ ap kind same ∙ part_kind n d leafy_new rs y h))
    (λ (old_kind, new_kind, wires).
    let default = part_default n d leafy_new rs (untaken wires) in
    let equal : ◌≡◌ {A = Option Leaf} (Some (zero_leaf (form d))) (Some y) = sym default ∙ h in
    let zero : zero_leaf (form d) ≡ y = cc in
    let one_is_zero : Int (pos 1) ≡ Int (pos 0) = sym (int_far (form e) old_kind) ∙ same ∙ sym zero ∙ int_zero (form d) new_kind in
    cc)
    (unlike_leaves e d leafy leafy_new unlike)

-- The part of an unlike key or value, in the two records of an entry.
module _ (k l : Scalar) (e d : Element) (key value : Leaf) (key_reads : Reads (form (elements.Scalar k)) key) (value_reads : Reads (form e) value) (is_nested : IsNestedLeaf e value) where
  pub unlike_key : like (elements.Scalar k) (elements.Scalar l) ≡ false → key ≡ far_leaf (form (elements.Scalar k)) → (x : Leaf) → entry_part (key_field l) (two_records k e key value key_reads value_reads is_nested) ≡ Some x → leaf_eq key x ≡ false
  unfolding two_records
  unlike_key unlike far x h =
      not_equal key x
      (λ same. part_differs 1 (elements.Scalar k) (elements.Scalar l) tt tt unlike (item_record 1 (elements.Scalar k) key ∷ item_record 2 e value ∷ [])
      (λ wires. (untaken_own 1 1 (elements.Scalar k) (elements.Scalar l) key wires, (untaken_other 2 1 e (elements.Scalar l) value refl, tt))) x h (sym far ∙ same))

  pub unlike_value : IsLeafy e → IsLeafy d → like e d ≡ false → value ≡ far_leaf (form e) → (y : Leaf) → entry_part (value_field d) (two_records k e key value key_reads value_reads is_nested) ≡ Some y → value ≡ y → ⊥
  unfolding two_records
  unlike_value leafy leafy_new unlike far y h same =
      part_differs 2 e d leafy leafy_new unlike (item_record 1 (elements.Scalar k) key ∷ item_record 2 e value ∷ [])
      (λ wires. (untaken_other 1 2 (elements.Scalar k) d key refl, (untaken_own 2 2 e d value wires, tt))) y h (sym far ∙ same)

-- what a child, or a leaf beside a child, is read as isn't met
leaf_unmet : (view : View) (f g : FieldShape) (d : Element) (leaf y : Leaf) → (leaf ≡ y → ⊥) → (read : (x : Leaf) → Option Item) → IsLeafy d → ((x : Leaf) → read x ≡ Some (Plain x)) → (item : Item) → read y ≡ Some item → matches view f g (Alike leaf) item ≡ false
leaf_unmet view f g d leaf y apart read leafy plain item h = search (rules, alike_equal, cases_Bool)

-- Two maps whose keys or whose values are unlike; the key and the value of the entry are least, and 1 where they are unlike integers.
module _ (enum_view : EnumView) (old new : Shape) (shape_old : IsShape old) (shape_new : IsShape new) (pair : Pair) (number : ℕ) (d : Element) (o r : Option ℕ) (k l : Scalar) where
  abbrev map_of : Element → FieldShape
  map_of e = record { number = number; presence = presences.Map k; element = e; oneof = o }

  abbrev beside : FieldShape
  beside = record { number = number; presence = presences.Map l; element = d; oneof = r }

  abbrev IsFar : Element → Leaf → Leaf → Type 0
  IsFar e key value =
      ((like (elements.Scalar k) (elements.Scalar l) ≡ false) × (key ≡ far_leaf (form (elements.Scalar k))))
      ⊎ ((like e d ≡ false) × (value ≡ far_leaf (form e)))

  leaf_value_unmet : (e : Element) → IsLeafy e → like e d ≡ false → (value y : Leaf) → (IsLeafy d → value ≡ y → ⊥) → (item : Item) → read_item (dec new) d y ≡ Some item → matches enum_view.alike (map_of e) beside (Alike value) item ≡ false
  leaf_value_unmet e leafy unlike value y apart item h =
      search (rules, option_map_some, leaf_unmet, leafy_reader)

  -- a map of leaves
  pub reach_far_leaves : (e : Element) (leafy : IsLeafy e) → field_at (fields old pair.old) number ≡ Some (map_of e) → field_at (fields new pair.new) number ≡ Some beside → (key value : Leaf) → InRange (form (elements.Scalar k)) key → InRange (form e) value → IsFar e key value → entry_cost number (body_length (form (elements.Scalar k)) key) (body_length (form e) value) ≤ cap → ReachedBy enum_view old new pair (holds number (Some key) value (ends [])) (entry_cost number (body_length (form (elements.Scalar k)) key) (body_length (form e) value))
  reach_far_leaves e leafy found at key value key_range range far small =
      let key_reads = bodies_read_again (elements.Scalar k) key key_range in
      let value_reads = bodies_read_again e value range in
      let is_nested = nested enum_view old new shape_old shape_new pair number e d o r k l leafy e leafy value in
      let short : length (entry_bytes k e key value) < 2 ^ 64 = omega (arith, length-entry_bytes k e key value) in
      reach_entry enum_view old new shape_old shape_new pair number e d o r k l leafy key value key_range range found at small
      (entry_broken enum_view.alike (dec new) (map_of e) beside k l refl refl (record { number = number; key = Some key; written = value; expected = Alike value }) key refl refl refl
      (λ x y h.
      let parts = entry_parts k l e d key value (bodies_read_again (elements.Scalar k) key key_range) (bodies_read_again e value range) (nested enum_view old new shape_old shape_new pair number e d o r k l leafy e leafy value) number short x y h in
      ⊎_elim
      (λ (unlike, far_key). inl (unlike_key k l e d key value (bodies_read_again (elements.Scalar k) key key_range) (bodies_read_again e value range) (nested enum_view old new shape_old shape_new pair number e d o r k l leafy e leafy value) unlike far_key x parts.0))
      (λ (unlike, far_value). inr (leaf_value_unmet e leafy unlike value y
      (λ leafy_new. unlike_value k l e d key value (bodies_read_again (elements.Scalar k) key key_range) (bodies_read_again e value range) (nested enum_view old new shape_old shape_new pair number e d o r k l leafy e leafy value) leafy leafy_new unlike far_value y parts.1)))
      far))

  -- a map of messages, with an empty one
  pub reach_far_child : (s : TypeId) → field_at (fields old pair.old) number ≡ Some (map_of (elements.Message s)) → field_at (fields new pair.new) number ≡ Some beside → (key : Leaf) → InRange (form (elements.Scalar k)) key → ((like (elements.Scalar k) (elements.Scalar l) ≡ false) × (key ≡ far_leaf (form (elements.Scalar k)))) ⊎ (like (elements.Message s) d ≡ false) → entry_cost number (body_length (form (elements.Scalar k)) key) (least_body (elements.Message s)) ≤ cap → ReachedBy enum_view old new pair (nests number (Some key) (ends []) (ends [])) (entry_cost number (body_length (form (elements.Scalar k)) key) (least_body (elements.Message s)))
  reach_far_child s found at key range far small =
      search (rules, is, short, single_broken, broken, whole)
    where
      f : FieldShape
      f = map_of (elements.Message s)

      v : Message
      v = nests number (Some key) (ends []) (ends [])

      is : IsMessage old pair.old v
      is = (record { field = f; found = found; key_fits = range; before = tt; alone = tt }, s, refl, tt, tt)

      test : Message → Bool
      test = same_message enum_view.alike (fields old (child_type (fields old pair.old) number)) (fields new (child_type (fields new pair.new) number)) [] (unshared_bytes old (child_type (fields old pair.old) number) (fields new (child_type (fields new pair.new) number)) (ends []))

      c : Comparand
      c = record { number = number; key = Some key; written = Bytes (bytes_of (records_in (fields old (child_type (fields old pair.old) number)) []) ++ []); expected = Kept test }

      literal : Comparand
      literal = record { number = number; key = Some key; written = Bytes []; expected = Kept test }

      written_is : c.written ≡ Bytes []
      written_is = ap (λ rs. Bytes (bytes_of rs ++ [])) (own_contents.0 (fields old (child_type (fields old pair.old) number)))

      entry_length : length (entry_bytes k (elements.Message s) key (Bytes [])) ≡ 2 + body_length (form (elements.Scalar k)) key + least_body (elements.Message s)
      entry_length = length-entry_bytes k (elements.Message s) key (Bytes []) ∙ ap (λ n. 2 + body_length (form (elements.Scalar k)) key + n) (empty_length s)

      whole : length (enc old pair.old v) ≡ entry_cost number (body_length (form (elements.Scalar k)) key) (least_body (elements.Message s))
      whole =
          single_length enum_view.alike old new shape_old pair.old pair.new v f refl found (refl, tt)
          ∙ ap length (append-nil (written number Len (entry_bytes k (elements.Message s) key c.written)).bytes)
          ∙ length-len_record number (entry_bytes k (elements.Message s) key c.written)
          ∙ ap (λ w. length (tag number Len) + with_length (length (entry_bytes k (elements.Message s) key w))) written_is
          ∙ ap (λ n. length (tag number Len) + with_length n) entry_length

      short : length (enc old pair.old v) ≤ cap
      short = subst (λ n. n ≤ cap) (sym whole) small

      fits : length (entry_bytes k (elements.Message s) key (Bytes [])) < 2 ^ 64
      fits = omega (arith, entry_length)

      -- a leaf that is read in place of a child
      unmet : like (elements.Message s) d ≡ false → (y : Leaf) (item : Item) → read_item (dec new) d y ≡ Some item → matches enum_view.alike f beside (Kept test) item ≡ false
      unmet unlike y item h = search (rules, leafy_reader)

      broken : is_field_kept enum_view.alike (dec new) f beside (c ∷ []) ≡ false
      broken =
          subst (λ w. is_field_kept enum_view.alike (dec new) f beside (record { number = number; key = Some key; written = w; expected = Kept test } ∷ []) ≡ false) (sym written_is)
          (entry_broken enum_view.alike (dec new) f beside k l refl refl literal key refl refl refl
          (λ x y h.
          let parts = entry_parts k l (elements.Message s) d key (Bytes []) (bodies_read_again (elements.Scalar k) key range) (record { read = refl; shape = tt }) refl number fits x y h in
          ⊎_elim
          (λ (unlike, far_key). inl (unlike_key k l (elements.Message s) d key (Bytes []) (bodies_read_again (elements.Scalar k) key range) (record { read = refl; shape = tt }) refl unlike far_key x parts.0))
          (λ unlike. inr (unmet unlike y))
          far))
