-- The entries of a map are read again from the records that are written of them.
use Rattle.std.proofs.Common.{◌≡◌, ℕ, ◌+◌, ◌*◌, ◌^◌, ◌<◌, ◌≤◌, List, ◌++◌, length, Some, Ok, refl, ap, sym, arith, append-nil, length-append, rules}
use Rattle.pg_schema.specs.declared.parts.field.Scalar.{Scalar}
use Rattle.pg_schema.specs.declared.parts.field.Element.{Element}
use Rattle.pg_schema.specs.declared.parts.field.Element.TheVariants as elements
use Rattle.pg_wire.specs.declared.record.WireType.{WireType}
use Rattle.pg_wire.specs.declared.record.WireType.TheVariants.{Len}
use Rattle.pg_wire.specs.Records.{IsRecord, written, wire_code, tag, length_before, records_of}
use Rattle.pg_wire.proofs.Varints.{length-varint_positive}
use Rattle.pg_wire.proofs.RecordLaws.{BodyFits, IsRecord-written, records_of_Spells}
use Rattle.pg_dyn.specs.message.Message.{Leaf}
use Rattle.pg_dyn.specs.laws.Bodies.{IsNestedLeaf, IsReadAs, entry_body, record_with, two_records}
use Rattle.pg_dyn.specs.word.Coding.{HasShape, form, form_wire, body}
use Rattle.pg_dyn.specs.reading.Content.{key_field, value_field, entry_part, entry_in}
use Rattle.pg_dyn.specs.encoding.Writing.{item_record}
use Rattle.pg_dyn.proofs.lemmas.word.Codings.{Reads}
use Rattle.pg_dyn.proofs.lemmas.message.Plain.{same_wire_self, plain_content_one}

pub BodyFits-from_shape : (wire : WireType) (bytes : List ℕ) → HasShape wire bytes → length bytes < 2 ^ 64 → BodyFits wire bytes
BodyFits-from_shape wire bytes h fits = grind arith

-- a record's body is shorter than its bytes
pub length_body-written : (number : ℕ) (wire : WireType) (bytes : List ℕ) → length bytes < length (written number wire bytes).bytes
unfolding written tag
length_body-written number wire bytes =
    omega (arith, length-append (tag number wire ++ length_before wire bytes) bytes, length-append (tag number wire) (length_before wire bytes), length-varint_positive (8 * number + wire_code wire))

IsRecord-with : (number : ℕ) (e : Element) (bytes : List ℕ) (leaf : Leaf) → 1 ≤ number → number < 2 ^ 29 → IsReadAs (form e) bytes leaf → length bytes < 2 ^ 64 → IsRecord (record_with number e bytes)
IsRecord-with number e bytes leaf low high reads fits = IsRecord-written number (form_wire (form e)) bytes low high (BodyFits-from_shape (form_wire (form e)) bytes reads.shape fits)

pub IsRecord-item_record : (number : ℕ) (e : Element) (leaf : Leaf) → 1 ≤ number → number < 2 ^ 29 → Reads (form e) leaf → length (body (form e) leaf) < 2 ^ 64 → IsRecord (item_record number e leaf)
IsRecord-item_record number e leaf low high reads fits = search (rules, IsRecord-with)

module _ (key : Scalar) (e : Element) (k v : List ℕ × Leaf) (reads_key : IsReadAs (form (elements.Scalar key)) k.0 k.1) (reads_value : IsReadAs (form e) v.0 v.1) (nested : IsNestedLeaf e v.1) where
  pub records_of_entry : length (entry_body key e k.0 v.0) < 2 ^ 64 → records_of (entry_body key e k.0 v.0) ≡ Ok (two_records key e k.0 v.0)
  records_of_entry fits =
      let total = length-append (record_with 1 (elements.Scalar key) k.0).bytes (record_with 2 e v.0).bytes in
      let key_short : length k.0 < 2 ^ 64 = omega (arith, length_body-written 1 (form_wire (form (elements.Scalar key))) k.0, total) in
      let value_short : length v.0 < 2 ^ 64 = omega (arith, length_body-written 2 (form_wire (form e)) v.0, total) in
      records_of_Spells (entry_body key e k.0 v.0) (two_records key e k.0 v.0)
      (record {
        joined = ap (λ xs. (record_with 1 (elements.Scalar key) k.0).bytes ++ xs) (sym (append-nil (record_with 2 e v.0).bytes));
        each = (IsRecord-with 1 (elements.Scalar key) k.0 k.1 (omega arith) (omega arith) reads_key key_short, (IsRecord-with 2 e v.0 v.1 (omega arith) (omega arith) reads_value value_short, tt));
      })

  key_part : entry_part (key_field key) (two_records key e k.0 v.0) ≡ Some k.1
  unfolding written
  key_part = rw (same_wire_self (form_wire (form (elements.Scalar key))), plain_content_one (key_field key) k.0 k.1 refl reads_key tt tt)

  value_part : entry_part (value_field e) (two_records key e k.0 v.0) ≡ Some v.1
  unfolding written
  value_part = rw (same_wire_self (form_wire (form e)), plain_content_one (value_field e) v.0 v.1 refl reads_value tt nested)

  pub entry_read : (number : ℕ) → length (entry_body key e k.0 v.0) < 2 ^ 64 → entry_in key e (written number Len (entry_body key e k.0 v.0)) ≡ Some (k.1, v.1)
  unfolding written
  entry_read number fits = rw (records_of_entry fits, key_part, value_part)
