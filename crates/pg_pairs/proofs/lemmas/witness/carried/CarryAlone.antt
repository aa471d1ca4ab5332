-- Messages that reach a choice.
use Rattle.std.proofs.Common.{◌≡◌, ℕ, ◌+◌, ◌≤◌, List, [], ◌∷◌, ◌++◌, length, true, false, not, ◌&&◌, Option, Some, None, refl, ap, ap₂, sym, ◌∙◌, subst, arith, length-append, eq-eqb, inr, rules}
use Rattle.pg_schema.specs.declared.parts.field.TypeId.{TypeId}
use Rattle.pg_schema.specs.declared.parts.field.Element.{Element}
use Rattle.pg_schema.specs.declared.parts.field.Element.TheVariants as elements
use Rattle.pg_schema.specs.declared.parts.field.Presence.{Presence}
use Rattle.pg_schema.specs.declared.parts.field.Presence.TheVariants as presences
use Rattle.pg_schema.specs.Shape.{Shape, FieldShape, fields, field_at}
use Rattle.pg_schema.specs.ShapeRules.{IsShape}
use Rattle.pg_dyn.specs.message.Message.{Leaf, Bytes, Message, ends, holds, nests, is_zero, unknown_of}
use Rattle.pg_wire.specs.Records.{tag}
use Rattle.pg_dyn.specs.word.Coding.{form, form_wire, InRange}
use Rattle.pg_dyn.specs.reading.Content.{same_wire, is_sibling}
use Rattle.pg_dyn.specs.encoding.Writing.{records_in, bytes_of}
use Rattle.pg_dyn.specs.encoding.Encoding.{child_type, encoded_parts, enc, cap}
use Rattle.pg_dyn.specs.reading.Decoding.{dec}
use Rattle.pg_dyn.specs.fitting.Belonging.{KeyFits, MayFollow, MayBeZero, LeafFits, IsPart, IsMessage}
use Rattle.pg_dyn.specs.views.Comparison.{Alike, hides_zero, same_message, expected, unshared_bytes, Kept, Comparand}
use Rattle.std.proofs.lemmas.Bool.{and_right}
use Rattle.pg_pairs.specs.declared.choices.choice.Pair.{Pair}
use Rattle.pg_pairs.specs.views.EnumView.{EnumView}
use Rattle.pg_pairs.specs.gaps.Gaps.{body_length}
use Rattle.pg_pairs.specs.gaps.TrueGaps.{ItemCounts, IsLeastUnseen}
use Rattle.pg_pairs.specs.choices.Costs.{with_length, one_item}
use Rattle.pg_pairs.specs.choices.Choices.{zero_counts}
use Rattle.pg_dyn.specs.laws.ByComparands.{is_field_kept}
use Rattle.pg_pairs.specs.bounds.Laws.{ReachedBy}
use Rattle.pg_pairs.specs.inner.Contents.{total}
use Rattle.pg_pairs.proofs.lemmas.gaps.GapItems.{IsLeafy}
use Rattle.pg_pairs.proofs.lemmas.bounds.AcrossPlain.{IsNoMap, not_map, IsUnpacked}
use Rattle.pg_pairs.proofs.lemmas.bounds.ChildTests.{bytes_are, kept_is}
use Rattle.pg_pairs.proofs.lemmas.bounds.Single.{single_length, single_broken}
use Rattle.pg_pairs.proofs.lemmas.bounds.Broken.{leaf_broken, child_broken, unpacked_total}
use Rattle.pg_dyn.proofs.PublicLaws.{fields_are_found}

pub leaf_fits_at : (number : ℕ) (p : Presence) (e : Element) (o : Option ℕ) (leaf : Leaf) → IsLeafy e → InRange (form e) leaf → MayBeZero p leaf → LeafFits (record { number = number; presence = p; element = e; oneof = o }) leaf
leaf_fits_at number p (elements.Message t) o leaf leafy range may = absurd leafy
leaf_fits_at number p (elements.Scalar s) o leaf leafy range may = (range, may)
leaf_fits_at number p (elements.Enum s) o leaf leafy range may = (range, may)

pub leaf_fits : (f : FieldShape) (leaf : Leaf) → IsLeafy f.element → InRange (form f.element) leaf → MayBeZero f.presence leaf → LeafFits f leaf
leaf_fits f leaf leafy range may = leaf_fits_at f.number f.presence f.element f.oneof leaf leafy range may

module _ (enum_view : EnumView) (old new : Shape) (shape_old : IsShape old) (shape_new : IsShape new) (pair : Pair) (f g : FieldShape) (found : field_at (fields old pair.old) f.number ≡ Some f) (at : field_at (fields new pair.new) f.number ≡ Some g) where
  -- a message of one part
  only : (key : Option Leaf) → KeyFits f.presence key → IsPart (fields old pair.old) f.number key []
  only key fits = record { field = f; found = found; key_fits = fits; before = tt; alone = tt }

  abbrev leaf_comparand : Option Leaf → Leaf → Comparand
  leaf_comparand key leaf = record { number = f.number; key = key; written = leaf; expected = Alike leaf }

  -- One leaf reaches the length of its record, where the new field's reader doesn't see it.
  pub reach_leaf : (key : Option Leaf) (leaf : Leaf) → KeyFits f.presence key → LeafFits f leaf → total f (leaf_comparand key leaf ∷ []) ≤ cap → is_field_kept enum_view.alike (dec new) f g (leaf_comparand key leaf ∷ []) ≡ false → ReachedBy enum_view old new pair (holds f.number key leaf (ends [])) (total f (leaf_comparand key leaf ∷ []))
  unfolding only
  reach_leaf key leaf key_fits fits small broken =
      let is : IsMessage old pair.old (holds f.number key leaf (ends [])) = (only key key_fits, fits, tt) in
      let length_is = single_length enum_view.alike old new shape_old pair.old pair.new (holds f.number key leaf (ends [])) f refl found (refl, tt) in
      let short : length (enc old pair.old (holds f.number key leaf (ends []))) ≤ cap = omega arith in (
        record {
          is_message = is;
          is_plain = tt;
          has_encoding = short;
          not_kept = single_broken enum_view.alike old new shape_old shape_new pair.old pair.new (holds f.number key leaf (ends [])) is tt short f g found at (refl, tt) broken;
        },
        length_is,
      )

  -- the first of two parts
  no_sibling : (h : FieldShape) → field_at (fields old pair.old) f.number ≡ Some h → is_sibling f h ≡ false
  no_sibling h there = and_right _ _ (ap not (eq-eqb f.number h.number (sym (fields_are_found.1 (fields old pair.old) f.number h there))))

  first : KeyFits f.presence None → MayFollow f.presence None None → IsPart (fields old pair.old) f.number None (record { number = f.number; key = None } ∷ [])
  first fits follows = record { field = f; found = found; key_fits = fits; before = (inr (refl, follows), tt); alone = (no_sibling, tt) }

  -- So do two leaves.
  pub reach_two : (a b : Leaf) → KeyFits f.presence None → LeafFits f a → LeafFits f b → MayFollow f.presence None None → total f (leaf_comparand None a ∷ leaf_comparand None b ∷ []) ≤ cap → is_field_kept enum_view.alike (dec new) f g (leaf_comparand None a ∷ leaf_comparand None b ∷ []) ≡ false → ReachedBy enum_view old new pair (holds f.number None a (holds f.number None b (ends []))) (total f (leaf_comparand None a ∷ leaf_comparand None b ∷ []))
  unfolding only first
  reach_two a b key_fits fits_a fits_b follows small broken =
      let is : IsMessage old pair.old (holds f.number None a (holds f.number None b (ends []))) = (first key_fits follows, fits_a, (only None key_fits, fits_b, tt)) in
      let length_is = single_length enum_view.alike old new shape_old pair.old pair.new (holds f.number None a (holds f.number None b (ends []))) f refl found (refl, (refl, tt)) in
      let short : length (enc old pair.old (holds f.number None a (holds f.number None b (ends [])))) ≤ cap = omega arith in (
        record {
          is_message = is;
          is_plain = tt;
          has_encoding = short;
          not_kept = single_broken enum_view.alike old new shape_old shape_new pair.old pair.new (holds f.number None a (holds f.number None b (ends []))) is tt short f g found at (refl, (refl, tt)) broken;
        },
        length_is,
      )

-- Case 2: like leaves with a gap, a record for each item.

-- an item that counts is shown, and the old field may hold it
pub shown_at : (number : ℕ) (p q : Presence) (e d : Element) (o r : Option ℕ) (item : Leaf) → ItemCounts (zero_counts (record { number = number; presence = p; element = e; oneof = o }) (record { number = number; presence = q; element = d; oneof = r })) item → ((hides_zero (record { number = number; presence = p; element = e; oneof = o }) (record { number = number; presence = q; element = d; oneof = r }) && is_zero item) ≡ false) × MayBeZero p item
shown_at number presences.Implicit presences.Implicit e d o r item counts = (counts, counts)
shown_at number presences.Implicit presences.Explicit e d o r item counts = (counts, counts)
shown_at number presences.Implicit (presences.Repeated w) e d o r item counts = (refl, counts)
shown_at number presences.Implicit (presences.Map l) e d o r item counts = (refl, counts)
shown_at number presences.Explicit presences.Implicit e d o r item counts = (counts, tt)
shown_at number presences.Explicit presences.Explicit e d o r item counts = (refl, tt)
shown_at number presences.Explicit (presences.Repeated w) e d o r item counts = (refl, tt)
shown_at number presences.Explicit (presences.Map l) e d o r item counts = (refl, tt)
shown_at number (presences.Repeated w) q e d o r item counts = (refl, tt)
shown_at number (presences.Map k) q e d o r item counts = (refl, tt)

pub reach_gap : (enum_view : EnumView) (old new : Shape) → IsShape old → IsShape new → (pair : Pair) (f g : FieldShape) → field_at (fields old pair.old) f.number ≡ Some f → field_at (fields new pair.new) f.number ≡ Some g → f.number ≡ g.number → KeyFits f.presence None → IsNoMap g.presence → IsUnpacked f → ((b : ℕ) → one_item f b ≡ length (tag f.number (form_wire (form f.element))) + b) → IsLeafy f.element → IsLeafy g.element → same_wire (form_wire (form f.element)) (form_wire (form g.element)) ≡ true → (item : Leaf) → IsLeastUnseen enum_view.alike (zero_counts f g) f.element g.element item → one_item f (body_length (form f.element) item) ≤ cap → ReachedBy enum_view old new pair (holds f.number None item (ends [])) (one_item f (body_length (form f.element) item))
reach_gap enum_view old new shape_old shape_new pair f g found at numbers no_key no_map unpacked cost_is leafy_old leafy_new wires item gap small =
    let c : Comparand = record { number = f.number; key = None; written = item; expected = Alike item } in
    let cost = unpacked_total f unpacked cost_is (record { number = f.number; key = None; written = item; expected = Alike item }) in
    let counts : ItemCounts (zero_counts f (record { number = f.number; presence = g.presence; element = g.element; oneof = g.oneof })) item = gap.unseen.counts in
    let shown = shown_at f.number f.presence g.presence f.element g.element f.oneof g.oneof item counts in
    subst (ReachedBy enum_view old new pair (holds f.number None item (ends []))) cost
    (reach_leaf enum_view old new shape_old shape_new pair f g found at None item no_key (leaf_fits f item leafy_old gap.unseen.in_range shown.1) (subst (λ n. n ≤ cap) (sym cost) small)
    (leaf_broken enum_view.alike (dec new) f g (record { number = f.number; key = None; written = item; expected = Alike item }) numbers wires (not_map (dec new) g no_map) unpacked leafy_new refl refl shown.0 gap.unseen.not_seen))

-- Case 3: a child that breaks.

pub reach_child : (enum_view : EnumView) (old new : Shape) → IsShape old → IsShape new → (pair : Pair) (number : ℕ) (p q : Presence) (s t : TypeId) (o r : Option ℕ) → field_at (fields old pair.old) number ≡ Some (record { number = number; presence = p; element = elements.Message s; oneof = o }) → field_at (fields new pair.new) number ≡ Some (record { number = number; presence = q; element = elements.Message t; oneof = r }) → KeyFits p None → IsNoMap q → IsUnpacked (record { number = number; presence = p; element = elements.Message s; oneof = o }) → ((b : ℕ) → one_item (record { number = number; presence = p; element = elements.Message s; oneof = o }) b ≡ length (tag number (form_wire (form (elements.Message s)))) + b) → (child : Message) (x : ℕ) → ReachedBy enum_view old new (record { old = s; new = t }) child x → one_item (record { number = number; presence = p; element = elements.Message s; oneof = o }) (with_length x) ≤ cap → ReachedBy enum_view old new pair (nests number None child (ends [])) (one_item (record { number = number; presence = p; element = elements.Message s; oneof = o }) (with_length x))
reach_child enum_view old new shape_old shape_new pair number p q s t o r found at no_key no_map unpacked cost_is child x (breaks, length_is) small =
    search (rules, is, short, single_broken, broken, whole)
  where
    f : FieldShape
    f = record { number = number; presence = p; element = elements.Message s; oneof = o }

    g : FieldShape
    g = record { number = number; presence = q; element = elements.Message t; oneof = r }

    v : Message
    v = nests number None child (ends [])

    is : IsMessage old pair.old v
    is = (record { field = f; found = found; key_fits = no_key; before = tt; alone = tt }, s, refl, breaks.is_message, tt)

    c : Comparand
    c = record {
      number = number;
      key = None;
      written = Bytes (bytes_of (records_in (fields old (child_type (fields old pair.old) number)) (encoded_parts old (child_type (fields old pair.old) number) child)) ++ bytes_of (unknown_of child));
      expected = Kept (same_message enum_view.alike (fields old (child_type (fields old pair.old) number)) (fields new (child_type (fields new pair.new) number)) (expected enum_view.alike old new (child_type (fields old pair.old) number) (child_type (fields new pair.new) number) child) (unshared_bytes old (child_type (fields old pair.old) number) (fields new (child_type (fields new pair.new) number)) child));
    }

    old_is : child_type (fields old pair.old) number ≡ s
    old_is = fields_are_found.3 (fields old pair.old) number f s found refl

    new_is : child_type (fields new pair.new) number ≡ t
    new_is = fields_are_found.3 (fields new pair.new) number g t at refl

    bytes : List ℕ
    bytes = bytes_of (records_in (fields old s) (encoded_parts old s child)) ++ bytes_of (unknown_of child)

    written_is : c.written ≡ Bytes bytes
    written_is = ap (λ u. Bytes (bytes_of (records_in (fields old u) (encoded_parts old u child)) ++ bytes_of (unknown_of child))) old_is

    expected_is : c.expected ≡ Kept (same_message enum_view.alike (fields old s) (fields new t) (expected enum_view.alike old new s t child) (unshared_bytes old s (fields new t) child))
    expected_is = ap₂ (λ u w. Kept (same_message enum_view.alike (fields old u) (fields new w) (expected enum_view.alike old new u w child) (unshared_bytes old u (fields new w) child))) old_is new_is

    broken : is_field_kept enum_view.alike (dec new) f g (c ∷ []) ≡ false
    broken = search (rules, child_broken, not_map, written_is, expected_is, kept_is)

    body_is : body_length (form (elements.Message s)) c.written ≡ with_length x
    body_is = search (rules, written_is, length-append, bytes_are)

    whole : length (enc old pair.old v) ≡ one_item f (with_length x)
    whole =
        single_length enum_view.alike old new shape_old pair.old pair.new v f refl found (refl, tt)
        ∙ unpacked_total f unpacked cost_is c ∙ ap (one_item f) body_is

    short : length (enc old pair.old v) ≤ cap
    short = subst (λ n. n ≤ cap) (sym whole) small
