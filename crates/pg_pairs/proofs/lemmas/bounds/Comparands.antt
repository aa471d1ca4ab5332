-- The comparands of a field: what they hold, what they cost, and whether a reader reads them right.
use Rattle.std.proofs.Common.{◌≡◌, ℕ, ◌+◌, ◌≤◌, List, [], length, map, flat_map, Bool, true, false, Option, Some, None, unwrap_or, refl, ap, sym, ◌∙◌, subst, arith, length-append, rules}
use Rattle.std.specs.List.{AllByRecursion}
use Rattle.pg_schema.specs.declared.parts.field.TypeId.{TypeId}
use Rattle.pg_schema.specs.declared.parts.field.Scalar.{Scalar}
use Rattle.pg_schema.specs.declared.parts.field.Element.{Element}
use Rattle.pg_schema.specs.declared.parts.field.Element.TheVariants as elements
use Rattle.pg_schema.specs.declared.parts.field.Presence.{Presence}
use Rattle.pg_schema.specs.declared.parts.field.Presence.TheVariants as presences
use Rattle.pg_schema.specs.Shape.{FieldShape}
use Rattle.pg_schema.specs.ShapeRules.{PresenceFits}
use Rattle.pg_wire.specs.declared.record.WireType.{WireType}
use Rattle.pg_wire.specs.declared.record.WireType.TheVariants.{Varint, I64, Len, I32}
use Rattle.pg_wire.specs.Varint.{varint}
use Rattle.pg_wire.specs.Records.{WireRecord, tag, written}
use Rattle.pg_dyn.specs.message.Message.{Leaf, Bytes, Plain, Message, Part, is_zero}
use Rattle.pg_dyn.specs.word.Coding.{form, form_wire, body, zero_leaf, InRange, HasShape}
use Rattle.pg_dyn.specs.encoding.Writing.{item_record, entry_bytes, key_of, field_records, bytes_of}
use Rattle.pg_dyn.specs.reading.Decoding.{Reader, is_child, read_item}
use Rattle.pg_dyn.specs.fitting.Belonging.{KeyFits}
use Rattle.pg_dyn.specs.views.Comparison.{View, Alike, Kept, Comparand, writes}
use Rattle.pg_pairs.proofs.lemmas.bounds.Packed.{Reads}
use Rattle.pg_dyn.specs.laws.Bodies.{IsNestedLeaf}
use Rattle.pg_dyn.proofs.Lists.{each_weaker, each_both, flat_map-map, map_map, each_within}
use Rattle.pg_pairs.specs.gaps.Likeness.{like}
use Rattle.pg_pairs.specs.gaps.Gaps.{body_length}
use Rattle.pg_pairs.specs.gaps.TrueGaps.{is_seen}
use Rattle.pg_pairs.specs.choices.Costs.{least_body, nonzero_body, entry_cost, one_item, least_content}
use Rattle.pg_dyn.specs.laws.ByComparands.{is_field_kept}
use Rattle.pg_pairs.specs.inner.Contents.{total, HoldsItem, Holds, passes, is_child_kept}
use Rattle.pg_pairs.proofs.lemmas.gaps.Lengths.{with_length_rises}
use Rattle.pg_pairs.proofs.lemmas.gaps.Leaves.{seen_read, seen_alike}
use Rattle.pg_pairs.proofs.lemmas.gaps.GapItems.{IsLeafy}
use Rattle.pg_pairs.proofs.lemmas.gaps.Likeness.{like_wire, same_wire-true}
use Rattle.pg_pairs.proofs.lemmas.bounds.Across.{Seen}
use Rattle.pg_pairs.proofs.lemmas.bounds.AcrossPlain.{IsUnpacked, IsPackedList}
use Rattle.pg_pairs.proofs.lemmas.bounds.AcrossMap.{is_map}
use Rattle.pg_pairs.proofs.lemmas.choices.Costs.{Costs, length-item_record, length-len_record, least_body_below, nonzero_body_below, unpacked_costs, packed_costs}
use Rattle.pg_dyn.proofs.PublicLaws.{bodies_read_again, own_contents, records_of_fields}

pub comparand_reads : (e : Element) (c : Comparand) → HoldsItem e c → Reads (form e) c.written
comparand_reads (elements.Message t) c (bytes, test, w, s) = subst (Reads (form (elements.Message t))) (sym w) (record { read = refl; shape = tt })
comparand_reads (elements.Scalar s) c h = bodies_read_again (elements.Scalar s) c.written h.0
comparand_reads (elements.Enum s) c h = bodies_read_again (elements.Enum s) c.written h.0

-- Costs.

tag_one : (wire : WireType) → length (tag 1 wire) ≡ 1
unfolding tag varint
tag_one Varint = refl
tag_one I64 = refl
tag_one Len = refl
tag_one I32 = refl

tag_two : (wire : WireType) → length (tag 2 wire) ≡ 1
unfolding tag varint
tag_two Varint = refl
tag_two I64 = refl
tag_two Len = refl
tag_two I32 = refl

pub length-entry_bytes : (k : Scalar) (e : Element) (key value : Leaf) → length (entry_bytes k e key value) ≡ 2 + body_length (form (elements.Scalar k)) key + body_length (form e) value
length-entry_bytes k e key value =
    omega (
      arith,
      length-append (item_record 1 (elements.Scalar k) key).bytes (item_record 2 e value).bytes,
      length-item_record 1 (elements.Scalar k) key,
      length-item_record 2 e value,
      tag_one (form_wire (form (elements.Scalar k))),
      tag_two (form_wire (form e)),
    )

-- an entry costs at least as much as one with bodies that are no longer
abbrev pub EntryCosts : FieldShape → Scalar → ℕ → Comparand → Type 0
EntryCosts f k n c =
    (a b : ℕ) → a ≤ body_length (form (elements.Scalar k)) (key_of k (writes c)) → b ≤ body_length (form f.element) c.written →
    entry_cost f.number a b ≤ n

pub entry_costs : (child : Reader) (f : FieldShape) (k : Scalar) → f.presence ≡ presences.Map k → (cs : List Comparand) → AllByRecursion (EntryCosts f k (total f cs)) cs
entry_costs child f k is cs =
    let record_of = λ (c : Comparand). written f.number Len (entry_bytes k f.element (key_of k (writes c)) c.written) in
    let whole : bytes_of (field_records f (map writes cs)) ≡ flat_map (λ (c : Comparand). (record_of c).bytes) cs =
    ap bytes_of ((is_map child f k is).records_are (map writes cs) ∙ map_map (λ (q : Part Leaf). written f.number Len (entry_bytes k f.element (key_of k q) q.item)) writes cs)
    ∙ flat_map-map (λ (r : WireRecord). r.bytes) record_of cs in
    rw whole
    (each_weaker (λ c. length (record_of c).bytes ≤ length (flat_map (λ (d : Comparand). (record_of d).bytes) cs)) _
    (λ c le a b small_a small_b.
    let entry = length-entry_bytes k f.element (key_of k (writes c)) c.written in
    let short : 2 + a + b ≤ length (entry_bytes k f.element (key_of k (writes c)) c.written) = omega arith in
    omega (arith, le, length-len_record f.number (entry_bytes k f.element (key_of k (writes c)) c.written), with_length_rises (2 + a + b) _ short))
    cs (each_within (λ (c : Comparand). (record_of c).bytes) cs))

key_reads : (k : Scalar) (key : Option Leaf) → KeyFits (presences.Map k) key → Reads (form (elements.Scalar k)) (unwrap_or key (zero_leaf (form (elements.Scalar k))))
key_reads k None h = absurd h
key_reads k (Some l) h = bodies_read_again (elements.Scalar k) l h

pub unpacked_implicit : (number : ℕ) (e : Element) (o : Option ℕ) → IsUnpacked (record { number = number; presence = presences.Implicit; element = e; oneof = o })
unpacked_implicit number e o = record { records_are = λ qs. refl }

pub unpacked_explicit : (number : ℕ) (e : Element) (o : Option ℕ) → IsUnpacked (record { number = number; presence = presences.Explicit; element = e; oneof = o })
unpacked_explicit number e o = record { records_are = λ qs. refl }

pub unpacked_repeated : (number : ℕ) (e : Element) (o : Option ℕ) → IsUnpacked (record { number = number; presence = presences.Repeated false; element = e; oneof = o })
unpacked_repeated number e o = record { records_are = λ qs. refl }

pub packed_list : (number : ℕ) (e : Element) (o : Option ℕ) → IsPackedList (record { number = number; presence = presences.Repeated true; element = e; oneof = o })
packed_list number e o = record { none = refl; one = λ q qs. refl }

-- a content with a comparand costs at least as much as one item of a body that is no longer
costs_at : (child : Reader) (number : ℕ) (p : Presence) (e : Element) (o : Option ℕ) → PresenceFits p e o → (cs : List Comparand) → AllByRecursion (Holds (record { number = number; presence = p; element = e; oneof = o })) cs → AllByRecursion (Costs (record { number = number; presence = p; element = e; oneof = o }) (total (record { number = number; presence = p; element = e; oneof = o }) cs)) cs
costs_at child number presences.Implicit e o fits cs holds = unpacked_costs _ (unpacked_implicit number e o) (λ b. refl) cs
costs_at child number presences.Explicit e o fits cs holds = unpacked_costs _ (unpacked_explicit number e o) (λ b. refl) cs
costs_at child number (presences.Repeated false) e o fits cs holds = unpacked_costs _ (unpacked_repeated number e o) (λ b. refl) cs
costs_at child number (presences.Repeated true) e o fits cs holds = packed_costs _ (packed_list number e o) (fits.1 refl) (λ b. refl) cs
costs_at child number (presences.Map k) e o fits cs holds =
    let f : FieldShape = record { number = number; presence = presences.Map k; element = e; oneof = o } in
    each_weaker (λ c. Holds f c × EntryCosts f k (total f cs) c) (Costs f (total f cs))
    (λ c h b small. h.1 (least_body (elements.Scalar k)) b (least_body_below (elements.Scalar k) (key_of k (writes c)) (key_reads k c.key h.0.key_fits)) small) cs
    (each_both (Holds f) (EntryCosts f k (total f cs)) cs holds (entry_costs child f k refl cs))

pub costs : (child : Reader) (f : FieldShape) → PresenceFits f.presence f.element f.oneof → (cs : List Comparand) → AllByRecursion (Holds f) cs → AllByRecursion (Costs f (total f cs)) cs
costs child f fits cs holds = costs_at child f.number f.presence f.element f.oneof fits cs holds

nonzero_comparand : (e : Element) (c : Comparand) → HoldsItem e c → is_zero c.written ≡ false → nonzero_body e ≤ body_length (form e) c.written
nonzero_comparand (elements.Message t) c h nonzero = least_body_below (elements.Message t) c.written (comparand_reads (elements.Message t) c h)
nonzero_comparand (elements.Scalar s) c h nonzero = nonzero_body_below (elements.Scalar s) c.written h.0 nonzero
nonzero_comparand (elements.Enum s) c h nonzero = nonzero_body_below (elements.Enum s) c.written h.0 nonzero

-- content that isn't zero costs at least as much as the least that isn't
pub nonzero_cost : (f : FieldShape) (n : ℕ) (c : Comparand) → Holds f c → Costs f n c → is_zero c.written ≡ false → one_item f (nonzero_body f.element) ≤ n
nonzero_cost f n c holds cost nonzero = cost (nonzero_body f.element) (nonzero_comparand f.element c holds.item nonzero)

-- any content costs at least as much as the least content
least_at : (number : ℕ) (p : Presence) (e : Element) (o : Option ℕ) (n : ℕ) (c : Comparand) → Holds (record { number = number; presence = p; element = e; oneof = o }) c → Costs (record { number = number; presence = p; element = e; oneof = o }) n c → least_content (record { number = number; presence = p; element = e; oneof = o }) ≤ n
least_at number presences.Implicit e o n c holds cost = nonzero_cost _ n c holds cost holds.may_be_zero
least_at number presences.Explicit e o n c holds cost = cost (least_body e) (least_body_below e c.written (comparand_reads e c holds.item))
least_at number (presences.Repeated packed) e o n c holds cost = cost (least_body e) (least_body_below e c.written (comparand_reads e c holds.item))
least_at number (presences.Map k) e o n c holds cost = cost (least_body e) (least_body_below e c.written (comparand_reads e c holds.item))

pub least_cost : (f : FieldShape) (n : ℕ) (c : Comparand) → Holds f c → Costs f n c → least_content f ≤ n
least_cost f n c holds cost = least_at f.number f.presence f.element f.oneof n c holds cost

-- Readers.

pub record LeafyReader (child : Reader) (d : Element) : Type 0 where
  pub read_is : (leaf : Leaf) → read_item child d leaf ≡ Some (Plain leaf)
  pub child_is : (bytes : List ℕ) → is_child child d bytes ≡ true
  pub nested_is : (leaf : Leaf) → IsNestedLeaf d leaf

pub leafy_reader : (child : Reader) (d : Element) → IsLeafy d → LeafyReader child d
leafy_reader child (elements.Scalar s) h = record { read_is = λ leaf. refl; child_is = λ bytes. refl; nested_is = λ leaf. tt }
leafy_reader child (elements.Enum s) h = record { read_is = λ leaf. refl; child_is = λ bytes. refl; nested_is = λ leaf. tt }
leafy_reader child (elements.Message s) h = absurd h

pub leafy_item : (e : Element) (c : Comparand) → IsLeafy e → HoldsItem e c → InRange (form e) c.written × (c.expected ≡ Alike c.written)
leafy_item (elements.Scalar s) c leafy h = h
leafy_item (elements.Enum s) c leafy h = h
leafy_item (elements.Message s) c leafy h = absurd leafy

-- a leaf that is seen
pub leafy_seen : (view : View) (child : Reader) (f g : FieldShape) (c : Comparand) → IsLeafy f.element → IsLeafy g.element → like f.element g.element ≡ true → Holds f c → is_seen view f.element g.element c.written ≡ true → Seen view child f g c
leafy_seen view child f g c leafy_old leafy_new is_like holds seen =
    let reader = leafy_reader child g.element leafy_new in
    let held = leafy_item f.element c leafy_old holds.item in
    record {
      number_is = holds.number_is;
      body_read = record {
        read = seen_read view f.element g.element c.written seen;
        shape = subst (λ w. HasShape w (body (form f.element) c.written)) (same_wire-true _ _ (like_wire f.element g.element is_like)) (comparand_reads f.element c holds.item).shape;
      };
      nested = reader.nested_is c.written;
      child_there = reader.child_is (body (form f.element) c.written);
      there = rw (reader.read_is c.written);
      met = rw (held.1, reader.read_is c.written) (seen_alike view f.element g.element c.written seen);
      zero_same = rw (held.1, reader.read_is c.written);
    }

passed : (test : Message → Bool) (o : Option Message) → passes test o ≡ true → (m : Message) × (o ≡ Some m) × (test m ≡ true)
passed test (Some m) h = (m, refl, h)
passed test None h = absurd (cc)

-- a child that is kept is seen
pub child_seen : (view : View) (child : Reader) (f g : FieldShape) (s t : TypeId) (c : Comparand) → Holds (record { number = f.number; presence = f.presence; element = elements.Message s; oneof = f.oneof }) c → (bytes : List ℕ) (test : Message → Bool) → c.written ≡ Bytes bytes → c.expected ≡ Kept test → is_child_kept child t test bytes ≡ true → Seen view child (record { number = f.number; presence = f.presence; element = elements.Message s; oneof = f.oneof }) (record { number = g.number; presence = g.presence; element = elements.Message t; oneof = g.oneof }) c
child_seen view child f g s t c holds bytes test w so kept = search (rules, passed)

-- No content: nothing is read, and nothing is shown.
pub empty_kept : (view : View) (child : Reader) (f g : FieldShape) → is_field_kept view child f g [] ≡ true
empty_kept view child f g = rw (records_of_fields.1 f, own_contents.1 g)
