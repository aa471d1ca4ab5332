-- What an entry is read as, where its key or its value isn't the one that was written.
use Rattle.std.proofs.Common.{◌≡◌, ℕ, ◌<◌, ◌^◌, List, [], ◌∷◌, ◌++◌, length, map, filter, true, false, ◌&&◌, Option, Some, None, option_map, option_and_then, ◌⊎◌, refl, ap, sym, ◌∙◌, subst, append-nil, rules}
use Rattle.std.proofs.lemmas.Bool.{and_left, and_right, cases_Bool}
use Rattle.pg_schema.specs.declared.parts.field.TypeId.{TypeId}
use Rattle.pg_schema.specs.declared.parts.field.Scalar.{Scalar}
use Rattle.pg_schema.specs.declared.parts.field.Element.{Element}
use Rattle.pg_schema.specs.declared.parts.field.Element.TheVariants as elements
use Rattle.pg_schema.specs.declared.parts.field.Presence.TheVariants as presences
use Rattle.pg_schema.specs.Shape.{FieldShape}
use Rattle.pg_wire.specs.declared.record.WireType.TheVariants.{Len}
use Rattle.pg_wire.specs.Records.{WireRecord, written}
use Rattle.pg_dyn.specs.reading.Optional.{all_some, first_or, joined}
use Rattle.pg_dyn.specs.message.Message.{Leaf, Bytes, Item, Part, leaf_eq}
use Rattle.pg_dyn.specs.word.Coding.{form, form_wire, body, leaf_in, zero_leaf}
use Rattle.pg_dyn.specs.reading.Content.{same_wire, last_item, takes, key_field, value_field, entry_part, entry_in, by_key, content}
use Rattle.pg_dyn.specs.encoding.Writing.{entry_bytes, key_of, field_records}
use Rattle.pg_dyn.specs.reading.Decoding.{Reader, read_item, read_part}
use Rattle.pg_dyn.specs.views.Comparison.{View, is_zero_expected, hides_zero, same_key, matches, Comparand, writes}
use Rattle.pg_pairs.proofs.lemmas.bounds.Packed.{Reads}
use Rattle.pg_dyn.specs.laws.Bodies.{IsNestedLeaf}
use Rattle.pg_pairs.proofs.lemmas.witness.EntryRecords.{two_records, entry_records}
use Rattle.pg_dyn.specs.laws.ByComparands.{field_read, is_field_kept}
use Rattle.pg_pairs.proofs.lemmas.gaps.GapItems.{IsLeafy}
use Rattle.pg_pairs.proofs.lemmas.bounds.AcrossMap.{is_map}
use Rattle.pg_pairs.proofs.lemmas.bounds.Broken.{NoneMatches, one_unkept, untaken_broken}
use Rattle.pg_dyn.proofs.Lists.{and_then_some, option_map_some}

-- what a function gives of one argument
single_some : {A B : Type 0} (g : A → Option B) (x : A) (ys : List B) → all_some (map g (x ∷ [])) ≡ Some ys → (y : B) × (g x ≡ Some y) × (y ∷ [] ≡ ys)
single_some {A} {B} g x ys h = search (rules, and_then_some)

-- Each reading of the entry has another key, or a value that isn't the one expected.
pub entry_broken : (view : View) (child : Reader) (f g : FieldShape) (k l : Scalar) → f.presence ≡ presences.Map k → g.presence ≡ presences.Map l → (c : Comparand) (key : Leaf) → c.key ≡ Some key → c.number ≡ f.number → (hides_zero f g && is_zero_expected c.expected) ≡ false → ((x y : Leaf) → entry_in l g.element (written f.number Len (entry_bytes k f.element (key_of k (writes c)) c.written)) ≡ Some (x, y) → (leaf_eq key x ≡ false) ⊎ ((item : Item) → read_item child g.element y ≡ Some item → matches view f g c.expected item ≡ false)) → is_field_kept view child f g (c ∷ []) ≡ false
entry_broken view child f g k l is_old is_new c key key_is number visible other =
    search (rules, one_unkept, of, records, untaken_broken, the_record, cases_Bool)
  where
    the_record : WireRecord
    the_record = written f.number Len (entry_bytes k f.element (key_of k (writes c)) c.written)

    records : field_records f (writes c ∷ []) ≡ the_record ∷ []
    records = (is_map child f k is_old).records_are (writes c ∷ [])

    part_fails : (x y : Leaf) → (leaf_eq key x ≡ false) ⊎ ((item : Item) → read_item child g.element y ≡ Some item → matches view f g c.expected item ≡ false) → (q : Part Item) → read_part child g.element (record { number = g.number; key = Some x; item = y }) ≡ Some q → (same_key c.key q.key && matches view f g c.expected q.item) ≡ false
    part_fails x y fails q h = search (rules, option_map_some, and_left, and_right)

    of : (qs : List (Part Item)) → takes g the_record ≡ true → field_read child g (the_record ∷ []) ≡ Some qs → NoneMatches view f g c qs
    of qs taken h =
        let kept : filter (takes g) (the_record ∷ []) ≡ the_record ∷ [] = rw taken in
        let (ps, there, read) = and_then_some (λ xs. all_some (map (read_part child g.element) xs)) _ qs h in
        let (entries, all, made) = option_map_some (λ (es : List (Leaf × Leaf)). map (λ (e : Leaf × Leaf). record { number = g.number; key = Some e.0; item = e.1 }) (by_key es)) (all_some (map (entry_in l g.element) (the_record ∷ []))) ps (sym ((is_map child g l is_new).content_is (the_record ∷ [])) ∙ ap (content g) (sym kept) ∙ there) in
        let (entry, entry_is, single) = single_some (entry_in l g.element) the_record entries all in
        let parts_are : record { number = g.number; key = Some entry.0; item = entry.1 } ∷ [] ≡ ps = ap (λ es. map (λ (e : Leaf × Leaf). record { number = g.number; key = Some e.0; item = e.1 }) (by_key es)) single ∙ made in
        let (q, part_read, last) = single_some (read_part child g.element) (record { number = g.number; key = Some entry.0; item = entry.1 }) qs (ap (λ xs. all_some (map (read_part child g.element) xs)) parts_are ∙ read) in
        subst (NoneMatches view f g c) last (part_fails entry.0 entry.1 (other entry.0 entry.1 entry_is) q part_read, tt)

-- The two records of an entry, and what a like key is read as.
module _ (k l : Scalar) (e d : Element) (key value : Leaf) (key_reads : Reads (form (elements.Scalar k)) key) (value_reads : Reads (form e) value) (nested : IsNestedLeaf e value) where
  abbrev records : List WireRecord
  records = two_records k e key value key_reads value_reads nested

  pub entry_parts : (number : ℕ) → length (entry_bytes k e key value) < 2 ^ 64 → (x y : Leaf) → entry_in l d (written number Len (entry_bytes k e key value)) ≡ Some (x, y) → (entry_part (key_field l) records ≡ Some x) × (entry_part (value_field d) records ≡ Some y)
  unfolding written
  entry_parts number short x y h =
      search (rules, option_and_then, entry_records, and_then_some, option_map_some)

  pub like_key_read : same_wire (form_wire (form (elements.Scalar k))) (form_wire (form (elements.Scalar l))) ≡ true → (x : Leaf) → entry_part (key_field l) records ≡ Some x → leaf_in (form (elements.Scalar l)) (body (form (elements.Scalar k)) key) ≡ Some x
  unfolding two_records written
  like_key_read wires x h = search (rules, option_and_then)

  leafy_value : (x : Element) → IsLeafy x → (y : Leaf) (o : Option Leaf) → option_map (first_or (zero_leaf (form x))) (option_map (λ (rows : List (List Leaf)). last_item presences.Explicit x (joined rows)) (option_and_then (λ z. option_map (λ zs. z ∷ zs) (Some [])) (option_map (λ leaf. leaf ∷ []) o))) ≡ Some y → o ≡ Some y
  leafy_value (elements.Scalar s) leafy y (Some z) h = h
  leafy_value (elements.Scalar s) leafy y None h = absurd (cc)
  leafy_value (elements.Enum s) leafy y (Some z) h = h
  leafy_value (elements.Enum s) leafy y None h = absurd (cc)
  leafy_value (elements.Message t) leafy y o h = absurd leafy

  pub like_value_read : IsLeafy d → same_wire (form_wire (form e)) (form_wire (form d)) ≡ true → (y : Leaf) → entry_part (value_field d) records ≡ Some y → leaf_in (form d) (body (form e) value) ≡ Some y
  unfolding two_records written
  like_value_read leafy wires y h = leafy_value d leafy y (leaf_in (form d) (body (form e) value)) (rw (wires, wires) at h)

-- a child as a value is read from its bytes
pub child_value_read : (k : Scalar) (s t : TypeId) (key : Leaf) (bytes : List ℕ) (key_reads : Reads (form (elements.Scalar k)) key) (value_reads : Reads (form (elements.Message s)) (Bytes bytes)) (y : Leaf) → entry_part (value_field (elements.Message t)) (two_records k (elements.Message s) key (Bytes bytes) key_reads value_reads refl) ≡ Some y → Bytes bytes ≡ y
unfolding two_records written
child_value_read k s t key bytes key_reads value_reads y h = let made : Bytes (bytes ++ []) ≡ y = cc in ap Bytes (sym (append-nil bytes)) ∙ made
