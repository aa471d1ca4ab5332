-- Messages that reach the choices of lists.
use Rattle.std.proofs.Common.{◌≡◌, ℕ, ◌+◌, ◌*◌, ◌≤◌, List, [], ◌∷◌, ◌++◌, length, map, filter, Bool, true, false, Option, Some, None, option_and_then, refl, ap, sym, ◌∙◌, subst, arith, append-nil, length-append, eq-eqb, rules}
use Rattle.std.proofs.lemmas.Bool.{or_right}
use Rattle.std.specs.Str.{is_utf8, chars}
use Rattle.pg_schema.specs.declared.parts.field.Scalar.TheVariants as scalars
use Rattle.pg_schema.specs.declared.parts.field.Element.{Element}
use Rattle.pg_schema.specs.declared.parts.field.Element.TheVariants as elements
use Rattle.pg_schema.specs.declared.parts.field.Presence.{Presence}
use Rattle.pg_schema.specs.declared.parts.field.Presence.TheVariants as presences
use Rattle.pg_schema.specs.Shape.{Shape, FieldShape, fields, field_at, is_repeated, is_singular, is_packable}
use Rattle.pg_schema.specs.ShapeRules.{IsShape}
use Rattle.pg_wire.specs.declared.record.WireType.{WireType}
use Rattle.pg_wire.specs.declared.record.WireType.TheVariants.{Varint, I64, Len, I32}
use Rattle.pg_wire.specs.Varint.{varint}
use Rattle.pg_wire.specs.Records.{written, length_before}
use Rattle.pg_dyn.specs.reading.Optional.{all_some}
use Rattle.pg_dyn.specs.message.Message.{Leaf, ends, holds, Item, Part}
use Rattle.pg_dyn.specs.word.Coding.{Form, Integer, Single, Double, Text, Raw, form, form_wire, body, leaf_in, word_bytes, zero_leaf, InRange, HasShape}
use Rattle.pg_dyn.specs.reading.Content.{same_wire, takes, leaves_in, content}
use Rattle.pg_dyn.specs.encoding.Writing.{item_record, field_records}
use Rattle.pg_dyn.specs.encoding.Encoding.{cap}
use Rattle.pg_dyn.specs.reading.Decoding.{read_part, dec}
use Rattle.pg_dyn.specs.views.Comparison.{Alike, hides_zero, Comparand, writes}
use Rattle.pg_dyn.specs.laws.Bodies.{IsReadAs}
use Rattle.pg_pairs.specs.declared.choices.choice.Pair.{Pair}
use Rattle.pg_pairs.specs.views.EnumView.{EnumView}
use Rattle.pg_pairs.specs.gaps.Likeness.{like}
use Rattle.pg_pairs.specs.gaps.Gaps.{body_length}
use Rattle.pg_pairs.specs.gaps.TrueGaps.{is_alike_read, is_seen}
use Rattle.pg_pairs.specs.choices.Costs.{least_body, one_item}
use Rattle.pg_dyn.specs.laws.ByComparands.{field_read}
use Rattle.pg_pairs.specs.bounds.Laws.{ReachedBy}
use Rattle.pg_pairs.specs.inner.Contents.{total}
use Rattle.pg_pairs.proofs.lemmas.gaps.GapItems.{IsLeafy}
use Rattle.pg_pairs.proofs.lemmas.gaps.Likeness.{like_wire, same_wire-true, packable-from_wire}
use Rattle.pg_pairs.proofs.lemmas.bounds.AcrossPlain.{IsNoMap, NotMap, plain_part, not_map}
use Rattle.pg_pairs.proofs.lemmas.bounds.Packed.{packed_read}
use Rattle.pg_pairs.proofs.lemmas.choices.Costs.{length-item_record, length-len_record}
use Rattle.pg_pairs.proofs.lemmas.gaps.Zeros.{zero_across, zero_is_zero, dropped}
use Rattle.pg_pairs.proofs.lemmas.bounds.Comparands.{unpacked_repeated}
use Rattle.pg_pairs.proofs.lemmas.bounds.Broken.{NoneMatches, one_unkept, two_unkept, untaken_broken, packed_untaken, singular_short, content_one, unpacked_total, leaves_match_none}
use Rattle.pg_pairs.proofs.lemmas.witness.carried.CarryAlone.{leaf_fits, reach_leaf, reach_two}
use Rattle.pg_dyn.proofs.PublicLaws.{bodies_read_again, packable_wires}
use Rattle.pg_dyn.proofs.Lists.{and_then_some}

-- The zero item is in range, and its body is the least.

pub zero_in_range : (e : Element) → IsLeafy e → InRange (form e) (zero_leaf (form e))
unfolding is_utf8 chars
zero_in_range (elements.Scalar scalars.String) leafy = refl
zero_in_range (elements.Scalar scalars.Bytes) leafy = tt
zero_in_range (elements.Scalar s) leafy = omega arith
zero_in_range (elements.Enum s) leafy = omega arith
zero_in_range (elements.Message t) leafy = absurd leafy

pub zero_length : (e : Element) → IsLeafy e → body_length (form e) (zero_leaf (form e)) ≡ least_body e
unfolding word_bytes varint
zero_length (elements.Scalar scalars.String) leafy = refl
zero_length (elements.Scalar s) leafy = refl
zero_length (elements.Enum s) leafy = refl
zero_length (elements.Message t) leafy = absurd leafy

pub packable_leafy : (e : Element) → is_packable e ≡ true → IsLeafy e
packable_leafy (elements.Scalar s) h = tt
packable_leafy (elements.Enum s) h = tt
packable_leafy (elements.Message t) h = absurd (cc)

-- a body that isn't LEN has no length before it
pub body_alone : (wire : WireType) (bytes : List ℕ) → same_wire Len wire ≡ false → length bytes ≡ length (length_before wire bytes ++ bytes)
body_alone Varint bytes h = refl
body_alone I64 bytes h = refl
body_alone I32 bytes h = refl
body_alone Len bytes h = absurd (cc)

-- a form of one number
abbrev IsNumeric : Form → Type 0
IsNumeric (Integer w) = Unit {0}
IsNumeric Single = Unit {0}
IsNumeric Double = Unit {0}
IsNumeric Text = ⊥
IsNumeric Raw = ⊥

packable_form : (x : Element) → is_packable x ≡ true → IsNumeric (form x)
packable_form (elements.Scalar scalars.String) h = absurd (cc)
packable_form (elements.Scalar scalars.Bytes) h = absurd (cc)
packable_form (elements.Scalar s) h = tt
packable_form (elements.Enum s) h = tt
packable_form (elements.Message t) h = absurd (cc)

module _ (enum_view : EnumView) (old new : Shape) (shape_old : IsShape old) (shape_new : IsShape new) (pair : Pair) (number : ℕ) (e d : Element) (o r : Option ℕ) (is_like : like e d ≡ true) where
  abbrev list : Bool → FieldShape
  list packed = record { number = number; presence = presences.Repeated packed; element = e; oneof = o }

  abbrev beside : Presence → FieldShape
  beside q = record { number = number; presence = q; element = d; oneof = r }

  abbrev leaf_comparand : Leaf → Comparand
  leaf_comparand leaf = record { number = number; key = None; written = leaf; expected = Alike leaf }

  -- A packed list beside a singular field, with any item: its record isn't accepted.

  packed_total : is_packable e ≡ true → (item : Leaf) → total (list true) (leaf_comparand item ∷ []) ≡ one_item (list true) (body_length (form e) item)
  packed_total packable item =
      search (rules, append-nil, length-len_record, body_alone, packable_wires)

  new_packable : is_packable e ≡ true → is_packable d ≡ true
  new_packable packable = packable-from_wire d (subst (λ w. same_wire Len w ≡ false) (same_wire-true _ _ (like_wire e d is_like)) (packable_wires e packable))

  reach_packed_at : (q : Presence) → is_repeated q ≡ false → IsNoMap q → field_at (fields old pair.old) number ≡ Some (list true) → field_at (fields new pair.new) number ≡ Some (beside q) → is_packable e ≡ true → (item : Leaf) → InRange (form e) item → hides_zero (list true) (beside q) ≡ false → one_item (list true) (body_length (form e) item) ≤ cap → ReachedBy enum_view old new pair (holds number None item (ends [])) (one_item (list true) (body_length (form e) item))
  reach_packed_at q singular no_map found at packable item range visible small =
      subst (ReachedBy enum_view old new pair (holds number None item (ends []))) (packed_total packable item)
      (reach_leaf enum_view old new shape_old shape_new pair (list true) (beside q) found at None item refl (leaf_fits (list true) item (packable_leafy e packable) range tt)
      (subst (λ n. n ≤ cap) (sym (packed_total packable item)) small)
      (untaken_broken enum_view.alike (dec new) (list true) (beside q) (leaf_comparand item) (written number Len (body (form e) item ++ [])) refl
      (packed_untaken (list true) (beside q) (dec new) (not_map (dec new) (beside q) no_map) (new_packable packable) singular (body (form e) item ++ [])) refl (rw visible)))

  pub reach_packed : (q : Presence) → is_singular q ≡ true → field_at (fields old pair.old) number ≡ Some (list true) → field_at (fields new pair.new) number ≡ Some (beside q) → is_packable e ≡ true → (item : Leaf) → InRange (form e) item → one_item (list true) (body_length (form e) item) ≤ cap → ReachedBy enum_view old new pair (holds number None item (ends [])) (one_item (list true) (body_length (form e) item))
  reach_packed presences.Implicit h found at packable item range small = reach_packed_at presences.Implicit refl tt found at packable item range refl small
  reach_packed presences.Explicit h found at packable item range small = reach_packed_at presences.Explicit refl tt found at packable item range refl small
  reach_packed (presences.Repeated w) h found at packable item range small = absurd (cc)
  reach_packed (presences.Map k) h found at packable item range small = absurd (cc)

  -- A list of leaves beside an explicit field: of two zeros one is read.
  pub reach_two_zeros : IsLeafy e → field_at (fields old pair.old) number ≡ Some (list false) → field_at (fields new pair.new) number ≡ Some (beside presences.Explicit) → 2 * one_item (list false) (least_body e) ≤ cap → ReachedBy enum_view old new pair (holds number None (zero_leaf (form e)) (holds number None (zero_leaf (form e)) (ends []))) (2 * one_item (list false) (least_body e))
  reach_two_zeros leafy found at small =
      let zero = zero_leaf (form e) in
      let fits = leaf_fits (list false) (zero_leaf (form e)) leafy (zero_in_range e leafy) tt in
      let all : total (list false) (leaf_comparand (zero_leaf (form e)) ∷ leaf_comparand (zero_leaf (form e)) ∷ []) ≡ 2 * one_item (list false) (least_body e) =
      omega (
        arith,
        length-append (item_record number e (zero_leaf (form e))).bytes ((item_record number e (zero_leaf (form e))).bytes ++ []),
        length-append (item_record number e (zero_leaf (form e))).bytes [],
        length-item_record number e (zero_leaf (form e)),
        zero_length e leafy,
      ) in
      subst (ReachedBy enum_view old new pair (holds number None (zero_leaf (form e)) (holds number None (zero_leaf (form e)) (ends [])))) all
      (reach_two enum_view old new shape_old shape_new pair (list false) (beside presences.Explicit) found at (zero_leaf (form e)) (zero_leaf (form e)) refl fits fits tt
      (subst (λ n. n ≤ cap) (sym all) small)
      (two_unkept enum_view.alike (dec new) (list false) (beside presences.Explicit) (leaf_comparand (zero_leaf (form e))) (leaf_comparand (zero_leaf (form e))) refl refl refl
      (λ qs h. singular_short (dec new) (beside presences.Explicit) (not_map (dec new) (beside presences.Explicit) tt) refl (field_records (list false) (writes (leaf_comparand (zero_leaf (form e))) ∷ writes (leaf_comparand (zero_leaf (form e))) ∷ [])) qs h)))

  -- A list of leaves beside an implicit field: a zero is dropped.
  pub reach_zero : IsLeafy e → IsLeafy d → field_at (fields old pair.old) number ≡ Some (list false) → field_at (fields new pair.new) number ≡ Some (beside presences.Implicit) → one_item (list false) (least_body e) ≤ cap → ReachedBy enum_view old new pair (holds number None (zero_leaf (form e)) (ends [])) (one_item (list false) (least_body e))
  reach_zero leafy leafy_new found at small =
      let f = list false in
      let g = beside presences.Implicit in
      let zero = zero_leaf (form e) in
      let wires = like_wire e d is_like in
      let cost : total (list false) (leaf_comparand (zero_leaf (form e)) ∷ []) ≡ one_item (list false) (least_body e) =
      unpacked_total (list false) (unpacked_repeated number e o) (λ b. refl) (leaf_comparand (zero_leaf (form e))) ∙ ap (one_item (list false)) (zero_length e leafy) in
      let read : field_read (dec new) (beside presences.Implicit) (item_record number e (zero_leaf (form e)) ∷ []) ≡ Some [] =
      ap (option_and_then (λ xs. all_some (map (read_part (dec new) d) xs)))
      (content_one enum_view.alike (dec new) (list false) (beside presences.Implicit) refl wires (not_map (dec new) (beside presences.Implicit) tt) (zero_leaf (form e)) (zero_leaf (form d))
      (zero_across e d (zero_leaf (form e)) wires (zero_in_range e leafy) (zero_is_zero (form e))))
      ∙ ap (λ ls. all_some (map (read_part (dec new) d) (map (plain_part number) ls))) (dropped d leafy_new) in
      subst (ReachedBy enum_view old new pair (holds number None (zero_leaf (form e)) (ends []))) cost
      (reach_leaf enum_view old new shape_old shape_new pair (list false) (beside presences.Implicit) found at None (zero_leaf (form e)) refl (leaf_fits (list false) (zero_leaf (form e)) leafy (zero_in_range e leafy) tt)
      (subst (λ n. n ≤ cap) (sym cost) small)
      (one_unkept enum_view.alike (dec new) (list false) (beside presences.Implicit) (leaf_comparand (zero_leaf (form e))) refl refl
      (λ qs h.
      let equal : ◌≡◌ {A = Option (List (Part Item))} (Some []) (Some qs) = sym read ∙ h in
      let same : ◌≡◌ {A = List (Part Item)} [] qs = cc in
      subst (NoneMatches enum_view.alike (list false) (beside presences.Implicit) (leaf_comparand (zero_leaf (form e)))) same tt)))

  -- A gap's item in a packed list beside a list.

  takes_list : (w : Bool) (bytes : List ℕ) → is_packable e ≡ true → takes (beside (presences.Repeated w)) (written number Len bytes) ≡ true
  unfolding written
  takes_list w bytes packable = rw (eq-eqb number number refl, new_packable packable) (or_right (same_wire Len (form_wire (form d))) true refl)

  leaves_of_one : (w : Bool) (item read : Leaf) → IsReadAs (form d) (body (form e) item) read → is_packable e ≡ true → leaves_in (beside (presences.Repeated w)) (written number Len (body (form e) item ++ [])) ≡ Some (read ∷ [])
  unfolding written
  leaves_of_one w item read is packable =
      rw (packable_wires d (new_packable packable)) (packed_read d (λ (l : Leaf). body (form e) item) (λ (l : Leaf). read) (new_packable packable) (item ∷ []) (is, tt))

  packable_read : (x : Element) → is_packable x ≡ true → (bytes : List ℕ) → (leaf : Leaf) × (leaf_in (form x) bytes ≡ Some leaf)
  packable_read x packable bytes = of (form x) (packable_form x packable)
    where
      of : (f : Form) → IsNumeric f → (leaf : Leaf) × (leaf_in f bytes ≡ Some leaf)
      of (Integer w) h = (_, refl)
      of Single h = (_, refl)
      of Double h = (_, refl)
      of Text h = absurd h
      of Raw h = absurd h

  pub reach_packed_gap : (w : Bool) → field_at (fields old pair.old) number ≡ Some (list true) → field_at (fields new pair.new) number ≡ Some (beside (presences.Repeated w)) → is_packable e ≡ true → (item : Leaf) → InRange (form e) item → is_seen enum_view.alike e d item ≡ false → one_item (list true) (body_length (form e) item) ≤ cap → ReachedBy enum_view old new pair (holds number None item (ends [])) (one_item (list true) (body_length (form e) item))
  reach_packed_gap w found at packable item range unseen small =
      subst (ReachedBy enum_view old new pair (holds number None item (ends []))) (packed_total packable item)
      (reach_leaf enum_view old new shape_old shape_new pair (list true) g found at None item refl (leaf_fits (list true) item (packable_leafy e packable) range tt)
      (subst (λ n. n ≤ cap) (sym (packed_total packable item)) small)
      (one_unkept enum_view.alike (dec new) (list true) g (leaf_comparand item) refl refl (λ qs h. of qs (packable_read d (new_packable packable) (body (form e) item)) h)))
    where
      g : FieldShape
      g = beside (presences.Repeated w)

      plain : NotMap (dec new) (beside (presences.Repeated w))
      plain = not_map (dec new) (beside (presences.Repeated w)) tt

      wires : same_wire (form_wire (form e)) (form_wire (form d)) ≡ true
      wires = like_wire e d is_like

      of : (qs : List (Part Item)) → (leaf : Leaf) × (leaf_in (form d) (body (form e) item) ≡ Some leaf) → field_read (dec new) (beside (presences.Repeated w)) (field_records (list true) (writes (leaf_comparand item) ∷ [])) ≡ Some qs → NoneMatches enum_view.alike (list true) (beside (presences.Repeated w)) (leaf_comparand item) qs
      of qs (read, read_is) h =
          let shape = subst (λ x. HasShape x (body (form e) item)) (same_wire-true _ _ wires) (bodies_read_again e item range).shape in
          let leaves : leaves_in (beside (presences.Repeated w)) (written number Len (body (form e) item ++ [])) ≡ Some (read ∷ []) =
          leaves_of_one w item read (record { read = read_is; shape = shape }) packable in
          let content_is : content (beside (presences.Repeated w)) (filter (takes (beside (presences.Repeated w))) (written number Len (body (form e) item ++ []) ∷ [])) ≡ Some (map (plain_part number) (read ∷ [])) =
          rw (takes_list w (body (form e) item ++ []) packable, plain.content_is (written number Len (body (form e) item ++ []) ∷ []), leaves) in
          let (ps, there, parts_read) = and_then_some (λ xs. all_some (map (read_part (dec new) d) xs)) _ qs h in
          let equal : ◌≡◌ {A = Option (List (Part Leaf))} (Some (map (plain_part number) (read ∷ []))) (Some ps) = sym content_is ∙ there in
          let same : map (plain_part number) (read ∷ []) ≡ ps = cc in
          leaves_match_none enum_view.alike (dec new) (list true) (beside (presences.Repeated w)) (leaf_comparand item) read (packable_leafy d (new_packable packable)) refl
          (subst (λ x. is_alike_read enum_view.alike e d item x ≡ false) read_is unseen) (read ∷ []) (refl, tt) qs
          (ap (λ xs. all_some (map (read_part (dec new) d) xs)) same ∙ parts_read)
