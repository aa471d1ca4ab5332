-- Messages that reach the gaps of maps of leaves.
use Rattle.std.proofs.Common.{◌≡◌, ℕ, ◌<◌, ◌≤◌, ◌^◌, [], ◌∷◌, length, true, false, Option, Some, inl, inr, refl, ap, sym, ◌∙◌, subst, arith, append-nil, rules}
use Rattle.pg_schema.specs.declared.parts.field.Scalar.{Scalar}
use Rattle.pg_schema.specs.declared.parts.field.Element.{Element}
use Rattle.pg_schema.specs.declared.parts.field.Element.TheVariants as elements
use Rattle.pg_schema.specs.declared.parts.field.Presence.TheVariants as presences
use Rattle.pg_schema.specs.Shape.{Shape, FieldShape, fields, field_at}
use Rattle.pg_schema.specs.ShapeRules.{IsShape}
use Rattle.pg_wire.specs.Records.{written}
use Rattle.pg_dyn.specs.message.Message.{Leaf, ends, holds, Item, Plain}
use Rattle.pg_dyn.specs.word.Coding.{form, zero_leaf, InRange}
use Rattle.pg_dyn.specs.encoding.Writing.{entry_bytes}
use Rattle.pg_dyn.specs.encoding.Encoding.{cap}
use Rattle.pg_dyn.specs.reading.Decoding.{dec}
use Rattle.pg_dyn.specs.views.Comparison.{Alike, matches, Comparand}
use Rattle.pg_dyn.specs.laws.Bodies.{IsNestedLeaf}
use Rattle.pg_pairs.specs.declared.choices.choice.Pair.{Pair}
use Rattle.pg_pairs.specs.views.EnumView.{EnumView}
use Rattle.pg_pairs.specs.gaps.Likeness.{like}
use Rattle.pg_pairs.specs.gaps.Gaps.{body_length}
use Rattle.pg_pairs.specs.gaps.TrueGaps.{is_alike_read, is_seen}
use Rattle.pg_pairs.specs.choices.Costs.{least_body, entry_cost, one_item}
use Rattle.pg_dyn.specs.laws.ByComparands.{is_field_kept}
use Rattle.pg_pairs.specs.bounds.Laws.{ReachedBy}
use Rattle.pg_pairs.specs.inner.Contents.{total}
use Rattle.pg_pairs.proofs.lemmas.gaps.GapItems.{IsLeafy}
use Rattle.pg_pairs.proofs.lemmas.gaps.Likeness.{like_wire}
use Rattle.pg_pairs.proofs.lemmas.choices.Costs.{length-len_record}
use Rattle.pg_pairs.proofs.lemmas.bounds.Comparands.{leafy_reader, length-entry_bytes}
use Rattle.pg_pairs.proofs.lemmas.witness.carried.CarryAlone.{leaf_fits, reach_leaf}
use Rattle.pg_pairs.proofs.lemmas.witness.carried.CarryLists.{zero_in_range, zero_length}
use Rattle.pg_pairs.proofs.lemmas.witness.EntriesRead.{entry_broken, entry_parts, like_key_read, like_value_read}
use Rattle.pg_dyn.proofs.PublicLaws.{bodies_read_again}

module _ (enum_view : EnumView) (old new : Shape) (shape_old : IsShape old) (shape_new : IsShape new) (pair : Pair) (number : ℕ) (e d : Element) (o r : Option ℕ) (k l : Scalar) (leafy : IsLeafy e) where
  abbrev f : FieldShape
  f = record { number = number; presence = presences.Map k; element = e; oneof = o }

  abbrev g : FieldShape
  g = record { number = number; presence = presences.Map l; element = d; oneof = r }

  abbrev entry_comparand : Leaf → Leaf → Comparand
  entry_comparand key value = record { number = number; key = Some key; written = value; expected = Alike value }

  entry_total : (key value : Leaf) → total f (entry_comparand key value ∷ []) ≡ entry_cost number (body_length (form (elements.Scalar k)) key) (body_length (form e) value)
  entry_total key value = search (rules, append-nil, length-len_record, length-entry_bytes)

  pub nested : (x : Element) → IsLeafy x → (leaf : Leaf) → IsNestedLeaf x leaf
  nested (elements.Scalar s) h leaf = tt
  nested (elements.Enum s) h leaf = tt
  nested (elements.Message t) h leaf = absurd h

  -- One entry reaches its cost, where the key or the value that is read differs.
  pub reach_entry : (key value : Leaf) → InRange (form (elements.Scalar k)) key → InRange (form e) value → field_at (fields old pair.old) number ≡ Some f → field_at (fields new pair.new) number ≡ Some g → entry_cost number (body_length (form (elements.Scalar k)) key) (body_length (form e) value) ≤ cap → is_field_kept enum_view.alike (dec new) f g (entry_comparand key value ∷ []) ≡ false → ReachedBy enum_view old new pair (holds number (Some key) value (ends [])) (entry_cost number (body_length (form (elements.Scalar k)) key) (body_length (form e) value))
  reach_entry key value key_range range found at small broken =
      subst (ReachedBy enum_view old new pair (holds number (Some key) value (ends []))) (entry_total key value)
      (reach_leaf enum_view old new shape_old shape_new pair f g found at (Some key) value key_range (leaf_fits f value leafy range tt)
      (subst (λ n. n ≤ cap) (sym (entry_total key value)) small) broken)

  pub entry_short : (key value : Leaf) → entry_cost number (body_length (form (elements.Scalar k)) key) (body_length (form e) value) ≤ cap → length (entry_bytes k e key value) < 2 ^ 64
  entry_short key value small = omega (arith, length-entry_bytes k e key value)

  -- a gap in the key, with a zero value
  pub reach_key_gap : like (elements.Scalar k) (elements.Scalar l) ≡ true → field_at (fields old pair.old) number ≡ Some f → field_at (fields new pair.new) number ≡ Some g → (key : Leaf) → InRange (form (elements.Scalar k)) key → is_seen enum_view.alike (elements.Scalar k) (elements.Scalar l) key ≡ false → entry_cost number (body_length (form (elements.Scalar k)) key) (least_body e) ≤ cap → ReachedBy enum_view old new pair (holds number (Some key) (zero_leaf (form e)) (ends [])) (entry_cost number (body_length (form (elements.Scalar k)) key) (least_body e))
  reach_key_gap like_keys found at key range unseen small =
      let cost = ap (entry_cost number (body_length (form (elements.Scalar k)) key)) (zero_length e leafy) in
      let few : entry_cost number (body_length (form (elements.Scalar k)) key) (body_length (form e) (zero_leaf (form e))) ≤ cap = subst (λ n. n ≤ cap) (sym cost) small in
      subst (ReachedBy enum_view old new pair (holds number (Some key) (zero_leaf (form e)) (ends []))) cost
      (reach_entry key (zero_leaf (form e)) range (zero_in_range e leafy) found at few
      (entry_broken enum_view.alike (dec new) f g k l refl refl (entry_comparand key (zero_leaf (form e))) key refl refl refl
      (λ x y h.
      let parts = entry_parts k l e d key (zero_leaf (form e)) (bodies_read_again (elements.Scalar k) key range) (bodies_read_again e (zero_leaf (form e)) (zero_in_range e leafy)) (nested e leafy (zero_leaf (form e))) number (entry_short key (zero_leaf (form e)) few) x y h in
      let read = like_key_read k l e d key (zero_leaf (form e)) (bodies_read_again (elements.Scalar k) key range) (bodies_read_again e (zero_leaf (form e)) (zero_in_range e leafy)) (nested e leafy (zero_leaf (form e))) (like_wire (elements.Scalar k) (elements.Scalar l) like_keys) x parts.0 in
      inl (subst (λ z. is_alike_read enum_view.alike (elements.Scalar k) (elements.Scalar l) key z ≡ false) read unseen))))

  -- a gap in the value, under a zero key
  pub reach_value_gap : IsLeafy d → like e d ≡ true → field_at (fields old pair.old) number ≡ Some f → field_at (fields new pair.new) number ≡ Some g → (value : Leaf) → InRange (form e) value → is_seen enum_view.alike e d value ≡ false → one_item f (body_length (form e) value) ≤ cap → ReachedBy enum_view old new pair (holds number (Some (zero_leaf (form (elements.Scalar k)))) value (ends [])) (one_item f (body_length (form e) value))
  reach_value_gap leafy_new like_values found at value range unseen small =
      let key = zero_leaf (form (elements.Scalar k)) in
      let key_range = zero_in_range (elements.Scalar k) tt in
      let cost = ap (λ n. entry_cost number n (body_length (form e) value)) (zero_length (elements.Scalar k) tt) in
      let few : entry_cost number (body_length (form (elements.Scalar k)) (zero_leaf (form (elements.Scalar k)))) (body_length (form e) value) ≤ cap = subst (λ n. n ≤ cap) (sym cost) small in
      subst (ReachedBy enum_view old new pair (holds number (Some (zero_leaf (form (elements.Scalar k)))) value (ends []))) cost
      (reach_entry (zero_leaf (form (elements.Scalar k))) value (zero_in_range (elements.Scalar k) tt) range found at few
      (entry_broken enum_view.alike (dec new) f g k l refl refl (entry_comparand (zero_leaf (form (elements.Scalar k))) value) (zero_leaf (form (elements.Scalar k))) refl refl refl
      (λ x y h.
      let parts = entry_parts k l e d (zero_leaf (form (elements.Scalar k))) value (bodies_read_again (elements.Scalar k) (zero_leaf (form (elements.Scalar k))) (zero_in_range (elements.Scalar k) tt)) (bodies_read_again e value range) (nested e leafy value) number (entry_short (zero_leaf (form (elements.Scalar k))) value few) x y h in
      let read = like_value_read k l e d (zero_leaf (form (elements.Scalar k))) value (bodies_read_again (elements.Scalar k) (zero_leaf (form (elements.Scalar k))) (zero_in_range (elements.Scalar k) tt)) (bodies_read_again e value range) (nested e leafy value) leafy_new (like_wire e d like_values) y parts.1 in
      inr (λ item item_is.
      let plain : ◌≡◌ {A = Option Item} (Some (Plain y)) (Some item) = sym ((leafy_reader (dec new) d leafy_new).read_is y) ∙ item_is in
      let same : Plain y ≡ item = cc in
      subst (λ i. matches enum_view.alike f g (Alike value) i ≡ false) same (subst (λ z. is_alike_read enum_view.alike e d value z ≡ false) read unseen)))))
