-- The least content of a field: its length is what it costs.
use Rattle.std.proofs.Common.{◌≡◌, ℕ, ◌+◌, [], ◌∷◌, ◌++◌, length, true, false, Option, unwrap_or, refl, ap, ap₂, ◌∙◌, arith, append-nil}
use Rattle.std.specs.Str.{is_utf8, chars}
use lib.Utf8.{encode}
use Rattle.pg_schema.specs.declared.parts.field.Scalar.TheVariants as scalars
use Rattle.pg_schema.specs.declared.parts.field.Element.{Element}
use Rattle.pg_schema.specs.declared.parts.field.Element.TheVariants as elements
use Rattle.pg_schema.specs.declared.parts.field.Presence.{Presence}
use Rattle.pg_schema.specs.declared.parts.field.Presence.TheVariants as presences
use Rattle.pg_schema.specs.Shape.{FieldShape}
use Rattle.pg_schema.specs.ShapeRules.{PresenceFits}
use Rattle.pg_wire.specs.declared.record.WireType.TheVariants.{Len}
use Rattle.pg_wire.specs.Varint.{varint}
use Rattle.pg_wire.specs.Records.{tag, written}
use Rattle.pg_dyn.specs.message.Message.{is_zero}
use Rattle.pg_dyn.specs.word.Coding.{Form, Integer, Single, Double, Text, Raw, form, form_wire, body, word_bytes, zero_leaf, InRange}
use Rattle.pg_dyn.specs.encoding.Writing.{entry_bytes}
use Rattle.pg_pairs.specs.gaps.Gaps.{body_length}
use Rattle.pg_pairs.specs.choices.Costs.{with_length, least_body, nonzero_body, least_content}
use Rattle.pg_dyn.specs.views.Comparison.{Comparand}
use Rattle.pg_pairs.specs.inner.Contents.{total}
use Rattle.pg_pairs.specs.witness.Carried.{nonzero_leaf, least_leaf, least_key}
use Rattle.pg_pairs.proofs.lemmas.gaps.GapItems.{IsLeafy, implicit_leafy}
use Rattle.pg_pairs.proofs.lemmas.choices.Costs.{length-len_record}
use Rattle.pg_pairs.proofs.lemmas.bounds.Comparands.{length-entry_bytes, unpacked_implicit, unpacked_explicit, unpacked_repeated}
use Rattle.pg_pairs.proofs.lemmas.bounds.Broken.{unpacked_total}
use Rattle.pg_pairs.proofs.lemmas.witness.carried.CarryLists.{zero_length, body_alone}
use Rattle.pg_dyn.proofs.PublicLaws.{packable_wires}

pub nonzero_in_range : (e : Element) → IsLeafy e → InRange (form e) (nonzero_leaf (form e))
unfolding is_utf8 chars encode
nonzero_in_range (elements.Scalar scalars.String) leafy = refl
nonzero_in_range (elements.Scalar scalars.Bytes) leafy = (omega arith, tt)
nonzero_in_range (elements.Scalar s) leafy = omega arith
nonzero_in_range (elements.Enum s) leafy = omega arith
nonzero_in_range (elements.Message t) leafy = absurd leafy

pub nonzero_length : (e : Element) → IsLeafy e → body_length (form e) (nonzero_leaf (form e)) ≡ nonzero_body e
unfolding word_bytes varint
nonzero_length (elements.Scalar scalars.String) leafy = refl
nonzero_length (elements.Scalar s) leafy = refl
nonzero_length (elements.Enum s) leafy = refl
nonzero_length (elements.Message t) leafy = absurd leafy

pub nonzero_is : (f : Form) → is_zero (nonzero_leaf f) ≡ false
nonzero_is (Integer w) = refl
nonzero_is Single = refl
nonzero_is Double = refl
nonzero_is Text = refl
nonzero_is Raw = refl

-- zero items of leaves and of messages have the least body
zero_any : (e : Element) → body_length (form e) (zero_leaf (form e)) ≡ least_body e
unfolding varint
zero_any (elements.Scalar s) = zero_length (elements.Scalar s) tt
zero_any (elements.Enum s) = zero_length (elements.Enum s) tt
zero_any (elements.Message t) = refl

least_total_at : (number : ℕ) (p : Presence) (e : Element) (o : Option ℕ) → PresenceFits p e o → (c : Comparand) → c.key ≡ least_key p → c.written ≡ least_leaf p e → total (record { number = number; presence = p; element = e; oneof = o }) (c ∷ []) ≡ least_content (record { number = number; presence = p; element = e; oneof = o })
least_total_at number presences.Implicit e o fits c key w =
    unpacked_total _ (unpacked_implicit number e o) (λ b. refl) c ∙ ap (λ l. length (tag number (form_wire (form e))) + body_length (form e) l) w
    ∙ ap (λ n. length (tag number (form_wire (form e))) + n) (nonzero_length e (implicit_leafy e o fits))
least_total_at number presences.Explicit e o fits c key w =
    unpacked_total _ (unpacked_explicit number e o) (λ b. refl) c ∙ ap (λ l. length (tag number (form_wire (form e))) + body_length (form e) l) w
    ∙ ap (λ n. length (tag number (form_wire (form e))) + n) (zero_any e)
least_total_at number (presences.Repeated false) e o fits c key w =
    unpacked_total _ (unpacked_repeated number e o) (λ b. refl) c ∙ ap (λ l. length (tag number (form_wire (form e))) + body_length (form e) l) w
    ∙ ap (λ n. length (tag number (form_wire (form e))) + n) (zero_any e)
least_total_at number (presences.Repeated true) e o fits c key w =
    let bytes = body (form e) c.written ++ [] in
    ap length (append-nil (written number Len (body (form e) c.written ++ [])).bytes)
    ∙ length-len_record number (body (form e) c.written ++ [])
    ∙ ap (λ bs. length (tag number Len) + with_length (length bs)) (append-nil (body (form e) c.written) ∙ ap (body (form e)) w)
    ∙ ap (λ n. length (tag number Len) + with_length n)
    (body_alone (form_wire (form e)) (body (form e) (zero_leaf (form e))) (packable_wires e (fits.1 refl)) ∙ zero_any e)
least_total_at number (presences.Map k) e o fits c key w =
    let entry = entry_bytes k e (zero_leaf (form (elements.Scalar k))) (zero_leaf (form e)) in
    let comparand_entry : entry_bytes k e (unwrap_or c.key (zero_leaf (form (elements.Scalar k)))) c.written ≡ entry_bytes k e (zero_leaf (form (elements.Scalar k))) (zero_leaf (form e)) =
    ap₂ (λ x y. entry_bytes k e (unwrap_or x (zero_leaf (form (elements.Scalar k)))) y) key w in
    ap length (append-nil (written number Len (entry_bytes k e (unwrap_or c.key (zero_leaf (form (elements.Scalar k)))) c.written)).bytes)
    ∙ length-len_record number (entry_bytes k e (unwrap_or c.key (zero_leaf (form (elements.Scalar k)))) c.written)
    ∙ ap (λ bs. length (tag number Len) + with_length (length bs)) comparand_entry
    ∙ ap (λ n. length (tag number Len) + with_length n)
    (length-entry_bytes k e (zero_leaf (form (elements.Scalar k))) (zero_leaf (form e))
    ∙ ap₂ (λ x y. 2 + x + y) (zero_any (elements.Scalar k)) (zero_any e))

-- A comparand with the least key and item has the least length.
pub least_total : (f : FieldShape) → PresenceFits f.presence f.element f.oneof → (c : Comparand) → c.key ≡ least_key f.presence → c.written ≡ least_leaf f.presence f.element → total f (c ∷ []) ≡ least_content f
least_total f fits c key w = least_total_at f.number f.presence f.element f.oneof fits c key w
