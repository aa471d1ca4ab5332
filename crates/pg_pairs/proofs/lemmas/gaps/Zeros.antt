-- Zero items: an explicit field's zero isn't seen missing by an implicit one.
use Rattle.std.proofs.Common.{◌≡◌, ℕ, pos, List, [], ◌∷◌, Bool, true, false, ◌&&◌, ◌||◌, Option, Some, refl, ap, eqb-true, rules}
use Rattle.std.specs.Str.{is_utf8, chars}
use Rattle.std.proofs.lemmas.Bool.{and_from, and_parts, and_right}
use Rattle.std.proofs.lemmas.Bool.Decides.{Decides-int_eq}
use Rattle.pg_schema.specs.declared.parts.field.Scalar.TheVariants as scalars
use Rattle.pg_schema.specs.declared.parts.field.Element.{Element}
use Rattle.pg_schema.specs.declared.parts.field.Element.TheVariants as elements
use Rattle.pg_schema.specs.declared.parts.field.Presence.TheVariants as presences
use Rattle.pg_schema.specs.Shape.{FieldShape, is_packable}
use Rattle.pg_wire.specs.declared.record.WireType.{WireType}
use Rattle.pg_wire.specs.declared.record.WireType.TheVariants.{Varint, I64, Len, I32}
use Rattle.pg_wire.specs.Varint.{varint}
use Rattle.pg_wire.specs.Words.{signed, unzigzag}
use Rattle.pg_wire.specs.Records.{WireRecord, written}
use Rattle.pg_dyn.specs.message.Message.{Leaf, Int, F32, F64, Bytes, is_zero}
use Rattle.pg_dyn.specs.word.Coding.{Form, Integer, Single, Double, Text, Raw, form, form_wire, body, leaf_in, word_bytes, word_in, zero_leaf, InRange}
use Rattle.pg_dyn.specs.reading.Content.{same_wire, takes, leaves_in, last_item}
use Rattle.pg_dyn.specs.encoding.Writing.{item_record}
use Rattle.pg_dyn.specs.reading.Decoding.{Reader, is_child}
use Rattle.pg_dyn.specs.views.Comparison.{View, Alike, same_content, Comparand, expects}
use Rattle.pg_dyn.specs.laws.ByComparands.{field_read, all_field_readable, is_field_kept}
use Rattle.pg_pairs.proofs.lemmas.gaps.GapItems.{IsLeafy}
use Rattle.pg_pairs.proofs.lemmas.gaps.Likeness.{same_wire-true}
use Rattle.pg_dyn.proofs.PublicLaws.{last_items}

pub zero_by_form : (f : Form) (item : Leaf) → InRange f item → is_zero item ≡ true → item ≡ zero_leaf f
zero_by_form (Integer w) (Int n) range h = ap Int ((Decides-int_eq n (pos 0)).0 h)
zero_by_form (Integer w) (F32 n) range h = absurd range
zero_by_form (Integer w) (F64 n) range h = absurd range
zero_by_form (Integer w) (Bytes n) range h = absurd range
zero_by_form Single (F32 n) range h = ap F32 (eqb-true n 0 h)
zero_by_form Single (Int n) range h = absurd range
zero_by_form Single (F64 n) range h = absurd range
zero_by_form Single (Bytes n) range h = absurd range
zero_by_form Double (F64 n) range h = ap F64 (eqb-true n 0 h)
zero_by_form Double (Int n) range h = absurd range
zero_by_form Double (F32 n) range h = absurd range
zero_by_form Double (Bytes n) range h = absurd range
zero_by_form Text (Bytes []) range h = refl
zero_by_form Text (Bytes (b ∷ bytes)) range h = absurd (cc)
zero_by_form Text (Int n) range h = absurd range
zero_by_form Text (F32 n) range h = absurd range
zero_by_form Text (F64 n) range h = absurd range
zero_by_form Raw (Bytes []) range h = refl
zero_by_form Raw (Bytes (b ∷ bytes)) range h = absurd (cc)
zero_by_form Raw (Int n) range h = absurd range
zero_by_form Raw (F32 n) range h = absurd range
zero_by_form Raw (F64 n) range h = absurd range

-- the body of a zero item goes by the wire type alone
unfoldable pub zero_bytes : WireType → List ℕ
zero_bytes Varint = 0 ∷ []
zero_bytes I64 = 0 ∷ 0 ∷ 0 ∷ 0 ∷ 0 ∷ 0 ∷ 0 ∷ 0 ∷ []
zero_bytes Len = []
zero_bytes I32 = 0 ∷ 0 ∷ 0 ∷ 0 ∷ []

pub zero_written : (e : Element) → body (form e) (zero_leaf (form e)) ≡ zero_bytes (form_wire (form e))
unfolding zero_bytes word_bytes varint
zero_written (elements.Scalar scalars.Double) = refl
zero_written (elements.Scalar s) = refl
zero_written (elements.Enum s) = refl
zero_written (elements.Message s) = refl

zero_read : (e : Element) → leaf_in (form e) (zero_bytes (form_wire (form e))) ≡ Some (zero_leaf (form e))
unfolding zero_bytes word_in signed unzigzag is_utf8 chars
zero_read (elements.Scalar scalars.Double) = refl
zero_read (elements.Scalar s) = refl
zero_read (elements.Enum s) = refl
zero_read (elements.Message s) = refl

pub zero_is_zero : (f : Form) → is_zero (zero_leaf f) ≡ true
zero_is_zero (Integer w) = refl
zero_is_zero Single = refl
zero_is_zero Double = refl
zero_is_zero Text = refl
zero_is_zero Raw = refl

-- a zero is read as a zero wherever its record is accepted
pub zero_across : (e d : Element) (item : Leaf) → same_wire (form_wire (form e)) (form_wire (form d)) ≡ true → InRange (form e) item → is_zero item ≡ true → leaf_in (form d) (body (form e) item) ≡ Some (zero_leaf (form d))
zero_across e d item wires range h =
    search (rules, zero_by_form, zero_written, same_wire-true, zero_read)

leafy_child : (child : Reader) (d : Element) (bytes : List ℕ) → IsLeafy d → is_child child d bytes ≡ true
leafy_child child (elements.Scalar s) bytes h = refl
leafy_child child (elements.Enum s) bytes h = refl
leafy_child child (elements.Message s) bytes h = absurd h

pub dropped : (d : Element) → IsLeafy d → last_item presences.Implicit d (zero_leaf (form d) ∷ []) ≡ []
dropped (elements.Scalar s) h = rw (zero_is_zero (form (elements.Scalar s)))
dropped (elements.Enum s) h = refl
dropped (elements.Message s) h = absurd h

only_own : (a b p : Bool) → (a || (b && false && p)) ≡ true → a ≡ true
only_own true b p h = refl
only_own false true p h = absurd (cc)
only_own false false p h = absurd (cc)

-- An explicit field's zero item, beside an implicit field: neither shows it.
module _ (view : View) (child : Reader) (number : ℕ) (e d : Element) (o q : Option ℕ) (leafy : IsLeafy d) (c : Comparand) (expected_is : c.expected ≡ Alike c.written) (range : InRange (form e) c.written) (zero : is_zero c.written ≡ true) where
  abbrev old : FieldShape
  old = record { number = number; presence = presences.Explicit; element = e; oneof = o }

  abbrev new : FieldShape
  new = record { number = number; presence = presences.Implicit; element = d; oneof = q }

  nothing_shown : same_content view old new (expects c ∷ []) [] ≡ true
  nothing_shown = search (rules, and_right)

  abbrev the_record : WireRecord
  the_record = item_record number e c.written

  zero_wires : takes new the_record ≡ true → same_wire (form_wire (form e)) (form_wire (form d)) ≡ true
  unfolding written
  zero_wires h = only_own (same_wire (form_wire (form e)) (form_wire (form d))) (same_wire (form_wire (form e)) Len) (is_packable d) (and_parts _ _ h).1

  zero_leaves : takes new the_record ≡ true → leaves_in new the_record ≡ Some (zero_leaf (form d) ∷ [])
  unfolding written
  zero_leaves h = let wires = zero_wires h in rw (wires, zero_across e d c.written wires range zero)

  -- the record isn't accepted, or its zero is dropped
  zero_read_by : (b : Bool) → takes new the_record ≡ b → (all_field_readable child new (the_record ∷ []) ≡ true) × (field_read child new (the_record ∷ []) ≡ Some [])
  zero_read_by false h = (rw h, rw (h, last_items.0 presences.Implicit d))
  zero_read_by true h = search (rules, zero_leaves, leafy_child, dropped)

  pub hidden_read : field_read child new (the_record ∷ []) ≡ Some []
  hidden_read = (zero_read_by (takes new the_record) refl).1

  pub zero_kept : is_field_kept view child old new (c ∷ []) ≡ true
  zero_kept =
      let read = zero_read_by (takes new the_record) refl in
      and_from _ _ read.0 (rw read.1 nothing_shown)
