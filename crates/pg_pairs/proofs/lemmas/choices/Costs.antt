-- How long a field's records are at least.
use Rattle.std.proofs.Common.{◌≡◌, ℕ, ◌+◌, ◌*◌, ◌≤◌, List, [], ◌∷◌, ◌++◌, length, map, flat_map, true, false, refl, ap, ◌∙◌, arith, length-append, append_assoc, rules}
use Rattle.std.specs.List.{AllByRecursion}
use Rattle.pg_schema.specs.declared.parts.field.Element.{Element}
use Rattle.pg_schema.specs.declared.parts.field.Element.TheVariants as elements
use Rattle.pg_schema.specs.Shape.{FieldShape, is_packable}
use Rattle.pg_wire.specs.declared.record.WireType.{WireType}
use Rattle.pg_wire.specs.declared.record.WireType.TheVariants.{Varint, I64, Len, I32}
use Rattle.pg_wire.specs.Varint.{varint}
use Rattle.pg_wire.specs.Records.{tag, written, length_before}
use Rattle.pg_dyn.specs.message.Message.{Leaf, Int, F32, F64, Bytes, Part, is_zero}
use Rattle.pg_dyn.specs.word.Coding.{Form, Integer, Single, Double, Text, Raw, form, form_wire, body, InRange, HasShape}
use Rattle.pg_dyn.specs.reading.Content.{same_wire}
use Rattle.pg_dyn.specs.encoding.Writing.{item_record, field_records, bytes_of}
use Rattle.pg_pairs.proofs.lemmas.bounds.Packed.{Reads}
use Rattle.pg_dyn.proofs.Lists.{each_weaker, flat_map-map, map_map, each_within}
use Rattle.pg_pairs.specs.gaps.Gaps.{body_length}
use Rattle.pg_pairs.specs.choices.Costs.{with_length, least_of_wire, least_body, least_nonzero, nonzero_body, one_item}
use Rattle.pg_dyn.specs.views.Comparison.{Comparand, writes}
use Rattle.pg_pairs.specs.inner.Contents.{total}
use Rattle.pg_pairs.proofs.lemmas.gaps.Lengths.{with_length_rises}
use Rattle.pg_pairs.proofs.lemmas.bounds.AcrossPlain.{IsUnpacked, IsPackedList}
use Rattle.pg_dyn.proofs.PublicLaws.{bodies_read_again, packable_wires}
use Rattle.pg_wire.proofs.PublicLaws.{lengths_grow}

-- Records.

length-written : (number : ℕ) (wire : WireType) (bytes : List ℕ) → length (written number wire bytes).bytes ≡ length (tag number wire) + length (length_before wire bytes ++ bytes)
unfolding written
length-written number wire bytes = search (rules, append_assoc, length-append)

length-len : (bytes : List ℕ) → length (length_before Len bytes ++ bytes) ≡ with_length (length bytes)
length-len bytes = length-append (varint (length bytes)) bytes

pub length-len_record : (number : ℕ) (bytes : List ℕ) → length (written number Len bytes).bytes ≡ length (tag number Len) + with_length (length bytes)
length-len_record number bytes = length-written number Len bytes ∙ ap (λ n. length (tag number Len) + n) (length-len bytes)

pub length-item_record : (number : ℕ) (e : Element) (item : Leaf) → length (item_record number e item).bytes ≡ length (tag number (form_wire (form e))) + body_length (form e) item
length-item_record number e item = length-written number (form_wire (form e)) (body (form e) item)

-- Bodies.

least_by_shape : (wire : WireType) (bytes : List ℕ) → HasShape wire bytes → least_of_wire wire ≤ length (length_before wire bytes ++ bytes)
least_by_shape Varint bytes h = (lengths_grow.4 bytes h).0
least_by_shape I64 bytes h = omega arith
least_by_shape I32 bytes h = omega arith
least_by_shape Len bytes h = omega (arith, lengths_grow.3 (length bytes), length-append (varint (length bytes)) bytes)

-- no body is shorter than the least
pub least_body_below : (e : Element) (item : Leaf) → Reads (form e) item → least_body e ≤ body_length (form e) item
least_body_below e item reads = least_by_shape (form_wire (form e)) (body (form e) item) reads.shape

least_text : (bytes : List ℕ) → is_zero (Bytes bytes) ≡ false → 2 ≤ length (varint (length bytes) ++ bytes)
least_text [] h = absurd (cc)
least_text (b ∷ bytes) h = omega (arith, lengths_grow.3 (length (b ∷ bytes)), length-append (varint (length (b ∷ bytes))) (b ∷ bytes))

nonzero_by_form : (f : Form) (item : Leaf) → InRange f item → HasShape (form_wire f) (body f item) → is_zero item ≡ false → least_nonzero f ≤ body_length f item
nonzero_by_form (Integer w) item range shape h = least_by_shape w.wire (body (Integer w) item) shape
nonzero_by_form Single item range shape h = least_by_shape I32 (body Single item) shape
nonzero_by_form Double item range shape h = least_by_shape I64 (body Double item) shape
nonzero_by_form Text (Bytes bytes) range shape h = least_text bytes h
nonzero_by_form Text (Int n) range shape h = absurd range
nonzero_by_form Text (F32 n) range shape h = absurd range
nonzero_by_form Text (F64 n) range shape h = absurd range
nonzero_by_form Raw (Bytes bytes) range shape h = least_text bytes h
nonzero_by_form Raw (Int n) range shape h = absurd range
nonzero_by_form Raw (F32 n) range shape h = absurd range
nonzero_by_form Raw (F64 n) range shape h = absurd range

-- nor is one of an item that isn't zero shorter than the least of these
pub nonzero_body_below : (e : Element) (item : Leaf) → InRange (form e) item → is_zero item ≡ false → nonzero_body e ≤ body_length (form e) item
nonzero_body_below (elements.Message t) item range h = least_body_below (elements.Message t) item (bodies_read_again (elements.Message t) item range)
nonzero_body_below (elements.Scalar s) item range h = nonzero_by_form (form (elements.Scalar s)) item range (bodies_read_again (elements.Scalar s) item range).shape h
nonzero_body_below (elements.Enum s) item range h = nonzero_by_form (form (elements.Enum s)) item range (bodies_read_again (elements.Enum s) item range).shape h

-- Fields.

-- a content with that item costs at least as much as one item of a body that is no longer
abbrev pub Costs : FieldShape → ℕ → Comparand → Type 0
Costs f n c = (b : ℕ) → b ≤ body_length (form f.element) c.written → one_item f b ≤ n

module _ (f : FieldShape) (unpacked : IsUnpacked f) (cost_is : (b : ℕ) → one_item f b ≡ length (tag f.number (form_wire (form f.element))) + b) where
  unpacked_bytes : (cs : List Comparand) → bytes_of (field_records f (map writes cs)) ≡ flat_map (λ (c : Comparand). (item_record f.number f.element c.written).bytes) cs
  unpacked_bytes cs = search (rules, map_map, flat_map-map)

  pub unpacked_costs : (cs : List Comparand) → AllByRecursion (Costs f (total f cs)) cs
  unpacked_costs cs =
      rw (unpacked_bytes cs)
      (each_weaker (λ c. length (item_record f.number f.element c.written).bytes ≤ length (flat_map (λ (d : Comparand). (item_record f.number f.element d.written).bytes) cs)) _
      (λ c le b small. omega (arith, cost_is b, le, length-item_record f.number f.element c.written)) cs
      (each_within (λ (c : Comparand). (item_record f.number f.element c.written).bytes) cs))

  -- two items cost as much as both
  pub two_cost : (c d : Comparand) (cs : List Comparand) (b : ℕ) → b ≤ body_length (form f.element) c.written → b ≤ body_length (form f.element) d.written → 2 * one_item f b ≤ total f (c ∷ d ∷ cs)
  two_cost c d cs b small_c small_d =
      search (rules, unpacked_bytes, length-append, flat_map, length-item_record)

module _ (f : FieldShape) (list : IsPackedList f) (packable : is_packable f.element ≡ true) (cost_is : (b : ℕ) → one_item f b ≡ length (tag f.number Len) + with_length b) where
  no_length : (wire : WireType) (bytes : List ℕ) → same_wire Len wire ≡ false → length (length_before wire bytes ++ bytes) ≡ length bytes
  no_length Varint bytes h = refl
  no_length I64 bytes h = refl
  no_length I32 bytes h = refl
  no_length Len bytes h = absurd (cc)

  pub packed_costs : (cs : List Comparand) → AllByRecursion (Costs f (total f cs)) cs
  packed_costs [] = tt
  packed_costs (c ∷ cs) =
      let bodies = flat_map (λ (d : Comparand). body (form f.element) d.written) (c ∷ cs) in
      let whole : bytes_of (field_records f (map writes (c ∷ cs))) ≡ (written f.number Len bodies).bytes ++ [] =
      ap bytes_of (list.one (writes c) (map writes cs)
      ∙ ap (λ bs. written f.number Len bs ∷ []) (flat_map-map (λ (r : Part Leaf). body (form f.element) r.item) writes (c ∷ cs))) in
      let all : total f (c ∷ cs) ≡ length (tag f.number Len) + with_length (length bodies) =
      ap length whole ∙ omega (arith, length-append (written f.number Len bodies).bytes [], length-len_record f.number bodies) in
      each_weaker (λ d. length (body (form f.element) d.written) ≤ length bodies) _
      (λ d le b small.
      let own = no_length (form_wire (form f.element)) (body (form f.element) d.written) (packable_wires f.element packable) in
      let short : b ≤ length bodies = omega (arith, le, own, small) in
      omega (arith, cost_is b, all, with_length_rises b (length bodies) short))
      (c ∷ cs) (each_within (λ (d : Comparand). body (form f.element) d.written) (c ∷ cs))
