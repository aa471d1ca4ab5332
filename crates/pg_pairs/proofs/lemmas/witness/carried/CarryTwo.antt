-- A list of messages beside one explicit message: two empty ones are read as one.
use Rattle.std.proofs.Common.{◌≡◌, ℕ, ◌*◌, ◌≤◌, [], ◌∷◌, ◌++◌, length, false, not, Option, Some, None, inr, refl, ap, sym, ◌∙◌, subst, arith, length-append, eq-eqb, rules}
use Rattle.std.proofs.lemmas.Bool.{and_right}
use Rattle.pg_schema.specs.declared.parts.field.TypeId.{TypeId}
use Rattle.pg_schema.specs.declared.parts.field.Element.TheVariants as elements
use Rattle.pg_schema.specs.declared.parts.field.Presence.TheVariants as presences
use Rattle.pg_schema.specs.Shape.{Shape, FieldShape, fields, field_at}
use Rattle.pg_schema.specs.ShapeRules.{IsShape}
use Rattle.pg_wire.specs.Varint.{varint}
use Rattle.pg_dyn.specs.message.Message.{Bytes, Message, ends, nests}
use Rattle.pg_dyn.specs.word.Coding.{form}
use Rattle.pg_dyn.specs.encoding.Writing.{item_record, field_records, records_in, bytes_of}
use Rattle.pg_dyn.specs.encoding.Encoding.{child_type, enc, cap}
use Rattle.pg_dyn.specs.reading.Decoding.{dec}
use Rattle.pg_dyn.specs.fitting.Belonging.{IsMessage}
use Rattle.pg_dyn.specs.views.Comparison.{same_message, unshared_bytes, Kept, Comparand, writes, comparands}
use Rattle.pg_pairs.specs.declared.choices.choice.Pair.{Pair}
use Rattle.pg_pairs.specs.views.EnumView.{EnumView}
use Rattle.pg_pairs.specs.gaps.Gaps.{body_length}
use Rattle.pg_pairs.specs.choices.Costs.{least_body, one_item}
use Rattle.pg_dyn.specs.laws.ByComparands.{is_field_kept}
use Rattle.pg_pairs.specs.bounds.Laws.{ReachedBy}
use Rattle.pg_pairs.specs.inner.Contents.{total}
use Rattle.pg_pairs.proofs.lemmas.bounds.AcrossPlain.{not_map}
use Rattle.pg_pairs.proofs.lemmas.choices.Costs.{length-item_record}
use Rattle.pg_pairs.proofs.lemmas.bounds.Single.{single_length, single_broken}
use Rattle.pg_pairs.proofs.lemmas.bounds.Broken.{two_unkept, singular_short}
use Rattle.pg_dyn.proofs.PublicLaws.{fields_are_found, own_contents}

module _ (enum_view : EnumView) (old new : Shape) (shape_old : IsShape old) (shape_new : IsShape new) (pair : Pair) (number : ℕ) (s t : TypeId) (o r : Option ℕ) where
  abbrev f : FieldShape
  f = record { number = number; presence = presences.Repeated false; element = elements.Message s; oneof = o }

  abbrev g : FieldShape
  g = record { number = number; presence = presences.Explicit; element = elements.Message t; oneof = r }

  two_total : (c d : Comparand) → c.written ≡ Bytes [] → d.written ≡ Bytes [] → total f (c ∷ d ∷ []) ≡ 2 * one_item f (least_body (elements.Message s))
  unfolding varint
  two_total c d is_c is_d =
      let first = length-append (item_record number (elements.Message s) c.written).bytes ((item_record number (elements.Message s) d.written).bytes ++ []) in
      let second = length-append (item_record number (elements.Message s) d.written).bytes [] in
      let body_c : body_length (form (elements.Message s)) c.written ≡ 1 = ap (body_length (form (elements.Message s))) is_c in
      let body_d : body_length (form (elements.Message s)) d.written ≡ 1 = ap (body_length (form (elements.Message s))) is_d in
      omega (arith, first, second, body_c, body_d, length-item_record number (elements.Message s) c.written, length-item_record number (elements.Message s) d.written)

  pub reach_two_children : field_at (fields old pair.old) number ≡ Some f → field_at (fields new pair.new) number ≡ Some g → 2 * one_item f (least_body (elements.Message s)) ≤ cap → ReachedBy enum_view old new pair (nests number None (ends []) (nests number None (ends []) (ends []))) (2 * one_item f (least_body (elements.Message s)))
  reach_two_children found at small = search (rules, is, short, single_broken, broken, whole)
    where
      v : Message
      v = nests number None (ends []) (nests number None (ends []) (ends []))

      is : IsMessage old pair.old v
      is = (
        record {
          field = f;
          found = found;
          key_fits = refl;
          before = (inr (refl, tt), tt);
          alone = ((λ h there. and_right _ _ (ap not (eq-eqb number h.number (sym (fields_are_found.1 (fields old pair.old) number h there))))), tt);
        },
        s,
        refl,
        tt,
        (record { field = f; found = found; key_fits = refl; before = tt; alone = tt }, s, refl, tt, tt),
      )

      c : Comparand
      c = record {
        number = number;
        key = None;
        written = Bytes (bytes_of (records_in (fields old (child_type (fields old pair.old) number)) []) ++ []);
        expected = Kept (same_message enum_view.alike (fields old (child_type (fields old pair.old) number)) (fields new (child_type (fields new pair.new) number)) [] (unshared_bytes old (child_type (fields old pair.old) number) (fields new (child_type (fields new pair.new) number)) (ends [])));
      }

      written_is : c.written ≡ Bytes []
      written_is = ap (λ rs. Bytes (bytes_of rs ++ [])) (own_contents.0 (fields old (child_type (fields old pair.old) number)))

      whole : length (enc old pair.old v) ≡ 2 * one_item f (least_body (elements.Message s))
      whole = single_length enum_view.alike old new shape_old pair.old pair.new v f refl found (refl, (refl, tt)) ∙ two_total c c written_is written_is

      short : length (enc old pair.old v) ≤ cap
      short = subst (λ n. n ≤ cap) (sym whole) small

      broken : is_field_kept enum_view.alike (dec new) f g (comparands enum_view.alike old new pair.old pair.new v) ≡ false
      broken = two_unkept enum_view.alike (dec new) f g c c refl refl refl (λ qs h. singular_short (dec new) g (not_map (dec new) g tt) refl (field_records f (writes c ∷ writes c ∷ [])) qs h)
