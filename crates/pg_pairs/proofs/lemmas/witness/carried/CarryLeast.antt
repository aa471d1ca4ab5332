-- Unlike fields that are no maps: the least content breaks, and reaches its cost.
use Rattle.std.proofs.Common.{◌≡◌, ℕ, ◌≤◌, [], ◌∷◌, ◌++◌, length, true, false, ◌&&◌, Option, Some, None, ⊎_elim, refl, ap, sym, ◌∙◌, subst, rules}
use Rattle.std.specs.List.{AllByRecursion}
use Rattle.std.proofs.lemmas.Bool.{and_left, and_right}
use Rattle.pg_schema.specs.declared.parts.field.TypeId.{TypeId}
use Rattle.pg_schema.specs.declared.parts.field.Scalar.{Scalar}
use Rattle.pg_schema.specs.declared.parts.field.Element.{Element}
use Rattle.pg_schema.specs.declared.parts.field.Element.TheVariants as elements
use Rattle.pg_schema.specs.declared.parts.field.Presence.{Presence}
use Rattle.pg_schema.specs.declared.parts.field.Presence.TheVariants as presences
use Rattle.pg_schema.specs.Shape.{Shape, FieldShape, fields, field_at, is_packable, is_repeated}
use Rattle.pg_schema.specs.ShapeRules.{PresenceFits, IsField, IsShape}
use Rattle.pg_wire.specs.declared.record.WireType.TheVariants.{Len}
use Rattle.pg_wire.specs.Records.{written}
use Rattle.pg_dyn.specs.message.Message.{Leaf, Message, ends, holds, IsPlain, unknown_of}
use Rattle.pg_dyn.specs.word.Coding.{form, form_wire, body, zero_leaf, InRange}
use Rattle.pg_dyn.specs.reading.Content.{same_wire}
use Rattle.pg_dyn.specs.encoding.Writing.{item_record, field_records}
use Rattle.pg_dyn.specs.encoding.Encoding.{enc, cap}
use Rattle.pg_dyn.specs.reading.Decoding.{Reader, dec}
use Rattle.pg_dyn.specs.fitting.Belonging.{IsMessage}
use Rattle.pg_dyn.specs.views.Comparison.{View, Alike, hides_zero, is_zero_expected, Comparand, writes, comparands}
use Rattle.pg_pairs.specs.declared.choices.choice.Pair.{Pair}
use Rattle.pg_pairs.specs.views.EnumView.{EnumView}
use Rattle.pg_pairs.specs.gaps.Likeness.{like}
use Rattle.pg_pairs.specs.choices.Costs.{nonzero_body, one_item, least_content}
use Rattle.pg_pairs.specs.choices.Choices.{zero_counts}
use Rattle.pg_dyn.specs.laws.ByComparands.{is_field_kept}
use Rattle.pg_pairs.specs.bounds.Laws.{ReachedBy}
use Rattle.pg_pairs.specs.witness.Carried.{nonzero_leaf, least_key, least_part_of, least_part}
use Rattle.pg_pairs.specs.inner.Contents.{total, HoldsItem, Holds}
use Rattle.pg_pairs.proofs.lemmas.gaps.GapItems.{IsLeafy}
use Rattle.pg_pairs.proofs.lemmas.bounds.AcrossPlain.{IsNoMap, NotMap, not_map, IsUnpacked}
use Rattle.pg_pairs.proofs.lemmas.bounds.AcrossMap.{is_map}
use Rattle.pg_pairs.proofs.lemmas.bounds.Comparands.{leafy_item, unpacked_implicit, unpacked_explicit, unpacked_repeated}
use Rattle.pg_pairs.proofs.lemmas.bounds.Messages.{each_holds}
use Rattle.pg_pairs.proofs.lemmas.bounds.Single.{single_length, single_broken}
use Rattle.pg_pairs.proofs.lemmas.bounds.Broken.{one_unkept, untaken_broken, packed_untaken, unpacked_total}
use Rattle.pg_pairs.proofs.lemmas.witness.carried.CarryAlone.{leaf_fits, reach_leaf}
use Rattle.pg_pairs.proofs.lemmas.gaps.KindsRead.{range_kind, leaf_matches_no_child, entry_matches_none, part_matches_no_entry}
use Rattle.pg_pairs.proofs.lemmas.witness.carried.CarryUnlike.{other_kind_broken, child_lost}
use Rattle.pg_pairs.proofs.lemmas.witness.carried.CarryWires.{unlike_leaves, integer_packable, wire_untaken, rows_broken}
use Rattle.pg_pairs.proofs.lemmas.witness.carried.CarryLists.{packable_leafy}
use Rattle.pg_pairs.proofs.lemmas.witness.LeastContents.{nonzero_in_range, nonzero_length, nonzero_is, least_total}
use Rattle.pg_pairs.proofs.lemmas.witness.Meeting.{least_key_fits, least_is_message, LeastComparand, least_comparand}
use Rattle.pg_dyn.proofs.PublicLaws.{fields_are_found}
use Rattle.pg_dyn.proofs.Lists.{each_at}

-- The message of one field's least content.
module _ (enum_view : EnumView) (old new : Shape) (shape_old : IsShape old) (shape_new : IsShape new) (pair : Pair) (f g : FieldShape) (found : field_at (fields old pair.old) f.number ≡ Some f) (at : field_at (fields new pair.new) f.number ≡ Some g) where
  fits : PresenceFits f.presence f.element f.oneof
  fits = (each_at (IsField (length old)) (fields old pair.old) f.number f found (fields_are_found.0 old pair.old shape_old).each).presence_fits

  abbrev v : Message
  v = least_part f (ends [])

  pub the_comparand : LeastComparand enum_view.alike old new pair.old pair.new f.number f.presence f.element (ends [])
  the_comparand = least_comparand enum_view.alike old new pair.old pair.new f.number f.presence f.element f.oneof fits (ends [])

  is : IsMessage old pair.old v
  is =
      least_is_message enum_view.alike old new pair.old pair.new f.number f.presence f.element f.oneof (ends [])
      (record { field = f; found = found; key_fits = least_key_fits f.presence; before = tt; alone = tt }) found tt

  pub comparand_holds : Holds f the_comparand.comparand
  comparand_holds = search (rules, the_comparand, each_holds, fields_are_found, is)

  no_unknown : (p : Presence) (e : Element) → unknown_of (least_part_of f.number p e (ends [])) ≡ []
  no_unknown p (elements.Message t) = refl
  no_unknown p (elements.Scalar s) = refl
  no_unknown p (elements.Enum s) = refl

  plain : (p : Presence) (e : Element) → IsPlain (least_part_of f.number p e (ends []))
  plain p (elements.Message t) = (tt, tt)
  plain p (elements.Scalar s) = tt
  plain p (elements.Enum s) = tt

  one : AllByRecursion (λ (c : Comparand). c.number ≡ f.number) (comparands enum_view.alike old new pair.old pair.new v)
  one = subst (AllByRecursion (λ (c : Comparand). c.number ≡ f.number)) (sym the_comparand.comparands_are) (the_comparand.number_is, tt)

  length_is : length (enc old pair.old v) ≡ least_content f
  length_is =
      single_length enum_view.alike old new shape_old pair.old pair.new v f (no_unknown f.presence f.element) found one
      ∙ ap (total f) the_comparand.comparands_are ∙ least_total f fits the_comparand.comparand the_comparand.key_is the_comparand.written_is

  -- The least content reaches its cost, where the new field doesn't keep it.
  pub reach_least : is_field_kept enum_view.alike (dec new) f g (the_comparand.comparand ∷ []) ≡ false → least_content f ≤ cap → ReachedBy enum_view old new pair (least_part f (ends [])) (least_content f)
  reach_least broken small =
      let short : length (enc old pair.old v) ≤ cap = subst (λ n. n ≤ cap) (sym length_is) small in (
        record {
          is_message = is;
          is_plain = plain f.presence f.element;
          has_encoding = short;
          not_kept = single_broken enum_view.alike old new shape_old shape_new pair.old pair.new v is (plain f.presence f.element) short f g found at one
              (subst (λ cs. is_field_kept enum_view.alike (dec new) f g cs ≡ false) (sym the_comparand.comparands_are) broken);
        },
        length_is,
      )

-- A leaf beside an unlike field, no maps, in a record of its own.
pub unlike_broken : (view : View) (child : Reader) (f g : FieldShape) → NotMap child g → IsUnpacked f → IsLeafy f.element → like f.element g.element ≡ false → (c : Comparand) → c.number ≡ f.number → c.expected ≡ Alike c.written → InRange (form f.element) c.written → (hides_zero f g && is_zero_expected c.expected) ≡ false → is_field_kept view child f g (c ∷ []) ≡ false
unlike_broken view child f g not_map_new unpacked leafy unlike c number so range visible = of g.element refl
  where
    leaves : (d : Element) → g.element ≡ d → IsLeafy d → is_field_kept view child f g (c ∷ []) ≡ false
    leaves d is leafy_new =
        let leafy_g : IsLeafy g.element = subst IsLeafy (sym is) leafy_new in
        ⊎_elim
        (λ other. other_kind_broken view child f g not_map_new leafy_g c number so (subst (λ s. (hides_zero f g && is_zero_expected s) ≡ false) so visible) (λ same. other (sym (range_kind (form f.element) c.written range) ∙ same)))
        (λ (old_kind, new_kind, wires).
        untaken_broken view child f g c (item_record f.number f.element c.written) (unpacked.records_are (writes c ∷ []))
        (wire_untaken child f g not_map_new (integer_packable f.element leafy old_kind) wires c.written) number visible)
        (unlike_leaves f.element g.element leafy leafy_g unlike)

    of : (d : Element) → g.element ≡ d → is_field_kept view child f g (c ∷ []) ≡ false
    of (elements.Message t) is = one_unkept view child f g c number visible (λ qs e. leaf_matches_no_child view child f g t is c c.written so (field_records f (writes c ∷ [])) qs e)
    of (elements.Scalar s) is = leaves (elements.Scalar s) is tt
    of (elements.Enum s) is = leaves (elements.Enum s) is tt

-- An entry beside a field that is no map, and the other way round.
pub map_broken : (view : View) (child : Reader) (f g : FieldShape) → NotMap child g → (c : Comparand) (k : Leaf) → c.key ≡ Some k → c.number ≡ f.number → (hides_zero f g && is_zero_expected c.expected) ≡ false → is_field_kept view child f g (c ∷ []) ≡ false
map_broken view child f g plain c k key number visible = one_unkept view child f g c number visible (λ qs e. entry_matches_none view child f g plain c k key (field_records f (writes c ∷ [])) qs e)

pub beside_map_broken : (view : View) (child : Reader) (f g : FieldShape) (l : Scalar) → g.presence ≡ presences.Map l → (c : Comparand) → c.key ≡ None → c.number ≡ f.number → (hides_zero f g && is_zero_expected c.expected) ≡ false → is_field_kept view child f g (c ∷ []) ≡ false
beside_map_broken view child f g l is c key number visible = one_unkept view child f g c number visible (λ qs e. part_matches_no_entry view child f g l (is_map child g l is) c key (field_records f (writes c ∷ [])) qs e)

-- Case 1.

unlike_message : (s : TypeId) (d : Element) → like (elements.Message s) d ≡ false → IsLeafy d
unlike_message s (elements.Scalar t) h = tt
unlike_message s (elements.Enum t) h = tt
unlike_message s (elements.Message t) h = absurd (cc)

-- the least comparand of a field is broken by an unlike one, where it is shown
module _ (view : View) (child : Reader) (number : ℕ) (o r : Option ℕ) (d : Element) where
  abbrev old_field : Presence → Element → FieldShape
  old_field p e = record { number = number; presence = p; element = e; oneof = o }

  abbrev new_field : Presence → FieldShape
  new_field q = record { number = number; presence = q; element = d; oneof = r }

  plain_unlike : (p q : Presence) → IsNoMap q → ((e : Element) → IsUnpacked (old_field p e)) → (e : Element) → like e d ≡ false → (c : Comparand) → Holds (old_field p e) c → (hides_zero (old_field p e) (new_field q) && is_zero_expected c.expected) ≡ false → is_field_kept view child (old_field p e) (new_field q) (c ∷ []) ≡ false
  plain_unlike p q no_map unpacked (elements.Message s) unlike c held visible =
      search (rules, child_lost, not_map, unlike_message)
  plain_unlike p q no_map unpacked (elements.Scalar s) unlike c held visible =
      unlike_broken view child (old_field p (elements.Scalar s)) (new_field q) (not_map child (new_field q) no_map) (unpacked (elements.Scalar s)) tt unlike c held.number_is held.item.1 held.item.0 visible
  plain_unlike p q no_map unpacked (elements.Enum s) unlike c held visible =
      unlike_broken view child (old_field p (elements.Enum s)) (new_field q) (not_map child (new_field q) no_map) (unpacked (elements.Enum s)) tt unlike c held.number_is held.item.1 held.item.0 visible

  -- a packed list of one zero
  packed_unlike : (q : Presence) → IsNoMap q → (e : Element) → is_packable e ≡ true → like e d ≡ false → (c : Comparand) → Holds (old_field (presences.Repeated true) e) c → c.written ≡ zero_leaf (form e) → is_field_kept view child (old_field (presences.Repeated true) e) (new_field q) (c ∷ []) ≡ false
  packed_unlike q no_map e packable unlike c held zero = of d refl
    where
      f : FieldShape
      f = old_field (presences.Repeated true) e

      plain : NotMap child (new_field q)
      plain = not_map child (new_field q) no_map

      leafy : IsLeafy e
      leafy = packable_leafy e packable

      item : InRange (form e) c.written × (c.expected ≡ Alike c.written)
      item = leafy_item e c leafy held.item

      by_wires : (x : Presence) → q ≡ x → IsNoMap x → is_packable d ≡ true → same_wire (form_wire (form e)) (form_wire (form d)) ≡ false → is_field_kept view child (old_field (presences.Repeated true) e) (new_field q) (c ∷ []) ≡ false
      by_wires presences.Implicit at plainly packable_new wires =
          untaken_broken view child f (new_field q) c (written number Len (body (form e) c.written ++ [])) refl
          (packed_untaken f (new_field q) child plain packable_new (ap is_repeated at) (body (form e) c.written ++ [])) held.number_is refl
      by_wires presences.Explicit at plainly packable_new wires =
          untaken_broken view child f (new_field q) c (written number Len (body (form e) c.written ++ [])) refl
          (packed_untaken f (new_field q) child plain packable_new (ap is_repeated at) (body (form e) c.written ++ [])) held.number_is refl
      by_wires (presences.Repeated w) at plainly packable_new wires =
          subst (λ x. is_field_kept view child (old_field (presences.Repeated true) e) (new_field x) (c ∷ []) ≡ false) (sym at)
          (rows_broken view child number e d o r w (not_map child (new_field (presences.Repeated w)) tt) packable packable_new wires c held.number_is zero)
      by_wires (presences.Map k) at plainly packable_new wires = absurd plainly

      leaves : IsLeafy d → is_field_kept view child (old_field (presences.Repeated true) e) (new_field q) (c ∷ []) ≡ false
      leaves leafy_new =
          ⊎_elim
          (λ other. other_kind_broken view child f (new_field q) plain leafy_new c held.number_is item.1 refl (λ same. other (sym (range_kind (form e) c.written item.0) ∙ same)))
          (λ (old_kind, new_kind, wires). by_wires q refl no_map (integer_packable d leafy_new new_kind) wires)
          (unlike_leaves e d leafy leafy_new unlike)

      of : (x : Element) → d ≡ x → is_field_kept view child (old_field (presences.Repeated true) e) (new_field q) (c ∷ []) ≡ false
      of (elements.Message t) same = search (rules, one_unkept, leaf_matches_no_child, item)
      of (elements.Scalar t) same = leaves (subst IsLeafy (sym same) tt)
      of (elements.Enum t) same = leaves (subst IsLeafy (sym same) tt)

-- what is shown of the least content beside a field, where zero counts or the field is implicit
hidden_at : (number : ℕ) (p q : Presence) (e d : Element) (o r : Option ℕ) → (zero_counts (record { number = number; presence = p; element = e; oneof = o }) (record { number = number; presence = q; element = d; oneof = r }) ≡ true) → hides_zero (record { number = number; presence = p; element = e; oneof = o }) (record { number = number; presence = q; element = d; oneof = r }) ≡ false
hidden_at number presences.Implicit q e d o r h = absurd (cc)
hidden_at number presences.Explicit presences.Implicit e d o r h = absurd (cc)
hidden_at number presences.Explicit presences.Explicit e d o r h = refl
hidden_at number presences.Explicit (presences.Repeated w) e d o r h = refl
hidden_at number presences.Explicit (presences.Map l) e d o r h = refl
hidden_at number (presences.Repeated p) q e d o r h = refl
hidden_at number (presences.Map k) q e d o r h = refl

module _ (enum_view : EnumView) (old new : Shape) (shape_old : IsShape old) (shape_new : IsShape new) (pair : Pair) (number : ℕ) (o r : Option ℕ) (e d : Element) where
  abbrev field_of : Presence → FieldShape
  field_of p = record { number = number; presence = p; element = e; oneof = o }

  abbrev beside : Presence → FieldShape
  beside q = record { number = number; presence = q; element = d; oneof = r }

  module _ (p q : Presence) (found : field_at (fields old pair.old) number ≡ Some (field_of p)) (at : field_at (fields new pair.new) number ≡ Some (beside q)) where
    comparand : Comparand
    comparand = (the_comparand enum_view old new shape_old shape_new pair (field_of p) (beside q) found at).comparand

    known : Holds (field_of p) (the_comparand enum_view old new shape_old shape_new pair (field_of p) (beside q) found at).comparand
    known = comparand_holds enum_view old new shape_old shape_new pair (field_of p) (beside q) found at

    least_reached : is_field_kept enum_view.alike (dec new) (field_of p) (beside q) ((the_comparand enum_view old new shape_old shape_new pair (field_of p) (beside q) found at).comparand ∷ []) ≡ false → least_content (field_of p) ≤ cap → ReachedBy enum_view old new pair (least_part (field_of p) (ends [])) (least_content (field_of p))
    least_reached = reach_least enum_view old new shape_old shape_new pair (field_of p) (beside q) found at

    -- an implicit field's least content isn't zero
    implicit_shown : p ≡ presences.Implicit → (hides_zero (field_of p) (beside q) && is_zero_expected (the_comparand enum_view old new shape_old shape_new pair (field_of p) (beside q) found at).comparand.expected) ≡ false
    implicit_shown is = and_right (hides_zero (field_of p) (beside q)) _ ((the_comparand enum_view old new shape_old shape_new pair (field_of p) (beside q) found at).not_hidden is)

  -- implicit and unlike
  pub reach_unlike_implicit : (q : Presence) → IsNoMap q → like e d ≡ false → field_at (fields old pair.old) number ≡ Some (field_of presences.Implicit) → field_at (fields new pair.new) number ≡ Some (beside q) → least_content (field_of presences.Implicit) ≤ cap → ReachedBy enum_view old new pair (least_part (field_of presences.Implicit) (ends [])) (least_content (field_of presences.Implicit))
  reach_unlike_implicit q no_map unlike found at small =
      least_reached presences.Implicit q found at
      (plain_unlike enum_view.alike (dec new) number o r d presences.Implicit q no_map (λ x. unpacked_implicit number x o) e unlike _ (known presences.Implicit q found at) (implicit_shown presences.Implicit q found at refl)) small

  -- explicit and unlike, where a zero counts
  pub reach_unlike_explicit : (q : Presence) → IsNoMap q → like e d ≡ false → zero_counts (field_of presences.Explicit) (beside q) ≡ true → field_at (fields old pair.old) number ≡ Some (field_of presences.Explicit) → field_at (fields new pair.new) number ≡ Some (beside q) → least_content (field_of presences.Explicit) ≤ cap → ReachedBy enum_view old new pair (least_part (field_of presences.Explicit) (ends [])) (least_content (field_of presences.Explicit))
  reach_unlike_explicit q no_map unlike zero found at small =
      least_reached presences.Explicit q found at
      (plain_unlike enum_view.alike (dec new) number o r d presences.Explicit q no_map (λ x. unpacked_explicit number x o) e unlike _ (known presences.Explicit q found at)
      (and_left _ _ (hidden_at number presences.Explicit q e d o r zero))) small

  -- a list of unpacked records, unlike
  pub reach_unlike_list : (q : Presence) → IsNoMap q → like e d ≡ false → field_at (fields old pair.old) number ≡ Some (field_of (presences.Repeated false)) → field_at (fields new pair.new) number ≡ Some (beside q) → least_content (field_of (presences.Repeated false)) ≤ cap → ReachedBy enum_view old new pair (least_part (field_of (presences.Repeated false)) (ends [])) (least_content (field_of (presences.Repeated false)))
  reach_unlike_list q no_map unlike found at small =
      least_reached (presences.Repeated false) q found at
      (plain_unlike enum_view.alike (dec new) number o r d (presences.Repeated false) q no_map (λ x. unpacked_repeated number x o) e unlike _ (known (presences.Repeated false) q found at) refl) small

  -- a packed list, unlike
  pub reach_unlike_packed : (q : Presence) → IsNoMap q → like e d ≡ false → is_packable e ≡ true → field_at (fields old pair.old) number ≡ Some (field_of (presences.Repeated true)) → field_at (fields new pair.new) number ≡ Some (beside q) → least_content (field_of (presences.Repeated true)) ≤ cap → ReachedBy enum_view old new pair (least_part (field_of (presences.Repeated true)) (ends [])) (least_content (field_of (presences.Repeated true)))
  reach_unlike_packed q no_map unlike packable found at small =
      least_reached (presences.Repeated true) q found at
      (packed_unlike enum_view.alike (dec new) number o r d q no_map e packable unlike _ (known (presences.Repeated true) q found at)
      (the_comparand enum_view old new shape_old shape_new pair (field_of (presences.Repeated true)) (beside q) found at).written_is) small

  -- a map beside a field that is none, and a field that is none beside a map
  pub reach_map : (k : Scalar) (q : Presence) → IsNoMap q → field_at (fields old pair.old) number ≡ Some (field_of (presences.Map k)) → field_at (fields new pair.new) number ≡ Some (beside q) → least_content (field_of (presences.Map k)) ≤ cap → ReachedBy enum_view old new pair (least_part (field_of (presences.Map k)) (ends [])) (least_content (field_of (presences.Map k)))
  reach_map k q no_map found at small =
      let c = the_comparand enum_view old new shape_old shape_new pair (field_of (presences.Map k)) (beside q) found at in
      least_reached (presences.Map k) q found at
      (map_broken enum_view.alike (dec new) (field_of (presences.Map k)) (beside q) (not_map (dec new) (beside q) no_map) c.comparand (zero_leaf (form (elements.Scalar k))) c.key_is c.number_is refl) small

  pub reach_beside_map : (p : Presence) → IsNoMap p → (l : Scalar) → field_at (fields old pair.old) number ≡ Some (field_of p) → field_at (fields new pair.new) number ≡ Some (beside (presences.Map l)) → least_content (field_of p) ≤ cap → ReachedBy enum_view old new pair (least_part (field_of p) (ends [])) (least_content (field_of p))
  reach_beside_map p no_map l found at small =
      let c = the_comparand enum_view old new shape_old shape_new pair (field_of p) (beside (presences.Map l)) found at in
      least_reached p (presences.Map l) found at
      (beside_map_broken enum_view.alike (dec new) (field_of p) (beside (presences.Map l)) l refl c.comparand (c.key_is ∙ no_key p no_map) c.number_is (and_left _ _ (not_both p no_map))) small
    where
      no_key : (x : Presence) → IsNoMap x → least_key x ≡ None
      no_key presences.Implicit h = refl
      no_key presences.Explicit h = refl
      no_key (presences.Repeated w) h = refl
      no_key (presences.Map k) h = absurd h

      not_both : (x : Presence) → IsNoMap x → hides_zero (field_of x) (beside (presences.Map l)) ≡ false
      not_both presences.Implicit h = refl
      not_both presences.Explicit h = refl
      not_both (presences.Repeated w) h = refl
      not_both (presences.Map k) h = absurd h

  -- an explicit leaf beside an unlike implicit field: a zero would be dropped, so the item isn't zero
  pub reach_unlike_nonzero : IsLeafy e → like e d ≡ false → field_at (fields old pair.old) number ≡ Some (field_of presences.Explicit) → field_at (fields new pair.new) number ≡ Some (beside presences.Implicit) → one_item (field_of presences.Explicit) (nonzero_body e) ≤ cap → ReachedBy enum_view old new pair (holds number None (nonzero_leaf (form e)) (ends [])) (one_item (field_of presences.Explicit) (nonzero_body e))
  reach_unlike_nonzero leafy unlike found at small =
      let leaf = nonzero_leaf (form e) in
      let cost : total (field_of presences.Explicit) (record { number = number; key = None; written = nonzero_leaf (form e); expected = Alike (nonzero_leaf (form e)) } ∷ []) ≡ one_item (field_of presences.Explicit) (nonzero_body e) =
      unpacked_total (field_of presences.Explicit) (unpacked_explicit number e o) (λ b. refl) (record { number = number; key = None; written = nonzero_leaf (form e); expected = Alike (nonzero_leaf (form e)) })
      ∙ ap (one_item (field_of presences.Explicit)) (nonzero_length e leafy) in
      subst (ReachedBy enum_view old new pair (holds number None (nonzero_leaf (form e)) (ends []))) cost
      (reach_leaf enum_view old new shape_old shape_new pair (field_of presences.Explicit) (beside presences.Implicit) found at None (nonzero_leaf (form e)) refl
      (leaf_fits (field_of presences.Explicit) (nonzero_leaf (form e)) leafy (nonzero_in_range e leafy) tt) (subst (λ n. n ≤ cap) (sym cost) small)
      (unlike_broken enum_view.alike (dec new) (field_of presences.Explicit) (beside presences.Implicit) (not_map (dec new) (beside presences.Implicit) tt) (unpacked_explicit number e o) leafy unlike
      (record { number = number; key = None; written = nonzero_leaf (form e); expected = Alike (nonzero_leaf (form e)) }) refl refl (nonzero_in_range e leafy)
      (and_right (hides_zero (field_of presences.Explicit) (beside presences.Implicit)) _ (nonzero_is (form e)))))

  -- an explicit child beside an implicit field, which is never like it
  pub reach_unlike_child : (s : TypeId) → e ≡ elements.Message s → like e d ≡ false → field_at (fields old pair.old) number ≡ Some (field_of presences.Explicit) → field_at (fields new pair.new) number ≡ Some (beside presences.Implicit) → least_content (field_of presences.Explicit) ≤ cap → ReachedBy enum_view old new pair (least_part (field_of presences.Explicit) (ends [])) (least_content (field_of presences.Explicit))
  reach_unlike_child s is unlike found at small = least_reached presences.Explicit presences.Implicit found at (of (subst (λ x. HoldsItem x c) is (known presences.Explicit presences.Implicit found at).item)) small
    where
      c : Comparand
      c = (the_comparand enum_view old new shape_old shape_new pair (field_of presences.Explicit) (beside presences.Implicit) found at).comparand

      of : HoldsItem (elements.Message s) c → is_field_kept enum_view.alike (dec new) (field_of presences.Explicit) (beside presences.Implicit) (c ∷ []) ≡ false
      of (bytes, test, w, so) =
          child_lost enum_view.alike (dec new) (field_of presences.Explicit) (beside presences.Implicit) (not_map (dec new) (beside presences.Implicit) tt)
          (unlike_message s d (subst (λ x. like x d ≡ false) is unlike)) c test (known presences.Explicit presences.Implicit found at).number_is so
