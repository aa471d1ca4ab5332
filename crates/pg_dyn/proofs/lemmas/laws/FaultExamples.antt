-- The examples of faults, by computation.
use Rattle.std.proofs.Common.{◌≡◌, ℕ, suc, ◌+◌, ◌≤◌, true, false, List, [], ◌∷◌, length, Some, Ok, Err, refl, sym, subst, ◌∙◌, arith}
use Rattle.std.specs.Str.{is_utf8, chars}
use lib.Utf8.{encode}
use Rattle.pg_wire.specs.Reading.{Fault, Front, exactly, row, VarintTooLong, Truncated, BadTag, Group, BadWireType}
use Rattle.pg_wire.specs.Varint.{varint_at, varint}
use Rattle.pg_wire.specs.Words.{signed, unzigzag}
use Rattle.pg_wire.specs.Records.{WireRecord, Spells, tag_parts, record_at, records_of, tag, written}
use Rattle.pg_wire.specs.declared.record.WireType.TheVariants.{Varint, Len}
use Rattle.pg_wire.proofs.RecordLaws.{Spells_from_records_of, records_of_Spells}
use Rattle.pg_schema.specs.declared.parts.field.Scalar.TheVariants.{Int32, Fixed32}
use Rattle.pg_schema.specs.declared.parts.field.Scalar.TheVariants as scalars
use Rattle.pg_schema.specs.declared.parts.field.Element.TheVariants as elements
use Rattle.pg_schema.specs.declared.parts.field.Presence.TheVariants.{Implicit, Explicit, Repeated, Map}
use Rattle.pg_schema.specs.Shape.{Shape, FieldShape, fields, field_at, is_map}
use Rattle.pg_dyn.specs.word.Coding.{word_bytes, word_in}
use Rattle.pg_dyn.specs.reading.Content.{takes, key_field, value_field}
use Rattle.pg_dyn.specs.encoding.Encoding.{enc}
use Rattle.pg_dyn.specs.reading.Decoding.{all_readable, dec}
use Rattle.pg_dyn.specs.reading.Faults.{AreRead, Code, FirstFault, FirstFaultOf, NotUtf8, TooDeep, TooDeepOf, Wire, the_root, no_record, in_record, not_text, bad_element, the_child, in_child, in_entry, missing_value}
use Rattle.pg_dyn.specs.reading.ReadingOn.{IsNoMessage}
use Rattle.pg_dyn.specs.reading.Steps.{IsShallowRecord}
use Rattle.pg_dyn.specs.laws.Examples.{first, field, scalar, member, int32}
use Rattle.pg_dyn.specs.laws.FaultExamples.{FaultExamples, text, text_or_number, packed, packed_of_four, child_and_text, children_by_text, too_long}
use Rattle.pg_dyn.proofs.lemmas.reading.by_fields.BodiesByFields.{shallow_from_records}
use Rattle.pg_dyn.proofs.lemmas.reading.gathered.GoodRecords.{same_found}
use Rattle.pg_dyn.proofs.lemmas.reading.faults.ShallowRecords.{scalar_shallow}

-- nothing in front
front_empty : (shape : Shape) (levels : ℕ) (fs : List FieldShape) → AreRead shape (suc levels) fs []
front_empty shape levels fs =
    let spelled : Spells [] [] = record { joined = refl; each = tt } in
    record { records = []; spelled = spelled; readable = refl; shallow = shallow_from_records shape levels fs [] [] (records_of_Spells [] [] spelled) tt }

-- a record of a field that is no message in front
front_of_one : (shape : Shape) (levels : ℕ) (fs : List FieldShape) (r : WireRecord) (f : FieldShape) (front : List ℕ) → Spells front (r ∷ [])
    → field_at fs r.number ≡ Some f → is_map f.presence ≡ false → IsNoMessage f.element → all_readable (dec shape) fs (r ∷ []) ≡ true
    → AreRead shape (suc levels) fs front
front_of_one shape levels fs r f front spelled found no_map scalar readable =
    let shallow = shallow_from_records shape levels fs front (r ∷ []) (records_of_Spells front (r ∷ []) spelled) (one, tt) in
    record { records = r ∷ []; spelled = spelled; readable = readable; shallow = shallow }
  where
    one : IsShallowRecord shape levels fs r
    one g taken place deep =
        let same = same_found f g (sym found ∙ taken.found) in
        scalar_shallow shape levels f.element r scalar f no_map refl place (subst (λ x. TooDeepOf shape levels x r place) (sym same) deep)

at_front : (levels : ℕ) (shape : Shape) (fs : List FieldShape) (bytes : List ℕ) (fault : Fault) → 1 ≤ length bytes
    → ◌≡◌ {A = Front WireRecord} (record_at bytes) (Err fault) → FirstFault shape (suc levels) fs bytes (Wire fault) 0
at_front levels shape fs bytes fault some stands = no_record levels fs bytes [] bytes fault refl (front_empty shape levels fs) some stands

first_of_all : (levels : ℕ) (shape : Shape) (fs : List FieldShape) (bytes rest : List ℕ) (r : WireRecord) (f : FieldShape) (code : Code) (place : ℕ)
    → ◌≡◌ {A = Front WireRecord} (record_at bytes) (Ok (r, rest)) → field_at fs r.number ≡ Some f → takes f r ≡ true
    → FirstFaultOf shape levels f r code place → FirstFault shape (suc levels) fs bytes code (0 + place)
first_of_all levels shape fs bytes rest r f code place read found taken fault =
    in_record levels fs bytes [] bytes rest r f code place refl (front_empty shape levels fs) read found taken fault

pub fault_examples : FaultExamples
unfolding is_utf8 chars encode exactly row varint_at varint signed unzigzag tag_parts record_at records_of tag written word_bytes word_in enc dec
fault_examples =
    let one = fields int32 first in
    let len = λ (number : ℕ) (body : List ℕ). written number Len body in
    let texts = scalar 1 Implicit scalars.String in
    let child = field 1 Explicit (elements.Message first) in
    let entry = field 1 (Map scalars.String) (elements.Message first) in
    let key = key_field scalars.String in
    let value = value_field (elements.Message first) in
    let of_entry = key ∷ value ∷ [] in
    let parent = fields child_and_text first in
    let holder = fields children_by_text first in
    let list = scalar 1 (Repeated true) Int32 in
    let four = scalar 1 (Repeated true) Fixed32 in
    let no_text = len 1 (255 ∷ []) in
    let bad_key = first_of_all 98 children_by_text of_entry (10 ∷ 1 ∷ 255 ∷ []) [] no_text key NotUtf8 0 refl refl refl (not_text 98 key no_text refl refl refl) in
    let inner_entry = len 1 (10 ∷ 1 ∷ 255 ∷ []) in
    let inner = first_of_all 98 children_by_text holder (10 ∷ 3 ∷ 10 ∷ 1 ∷ 255 ∷ []) [] inner_entry entry NotUtf8 2 refl refl refl
    (in_entry 98 entry inner_entry scalars.String NotUtf8 0 refl bad_key) in
    let held = len 2 (10 ∷ 3 ∷ 10 ∷ 1 ∷ 255 ∷ []) in
    let in_value = first_of_all 99 children_by_text of_entry (18 ∷ 5 ∷ 10 ∷ 3 ∷ 10 ∷ 1 ∷ 255 ∷ []) [] held value NotUtf8 4 refl refl refl
    (in_child 98 value held first NotUtf8 2 refl refl inner) in
    let outer_entry = len 1 (18 ∷ 5 ∷ 10 ∷ 3 ∷ 10 ∷ 1 ∷ 255 ∷ []) in
    let child_text = scalar 2 Implicit scalars.String in
    let of_child = λ (bytes : List ℕ) (code : Code) (fault : FirstFault child_and_text 99 parent bytes code 0).
    in_child 98 child (len 1 bytes) first code 0 refl refl fault in
    record {
      varint_too_long = at_front 99 int32 one (8 ∷ too_long (1 ∷ [])) VarintTooLong (omega arith) refl;
      body_cut_off = at_front 99 text (fields text first) (10 ∷ 5 ∷ 97 ∷ []) Truncated (omega arith) refl;
      no_field_number = no_record 99 one (8 ∷ 5 ∷ 0 ∷ []) (8 ∷ 5 ∷ []) (0 ∷ []) BadTag refl
          (front_of_one int32 99 one (written 1 Varint (5 ∷ [])) (scalar 1 Implicit Int32) (8 ∷ 5 ∷ [])
          (Spells_from_records_of (8 ∷ 5 ∷ []) (written 1 Varint (5 ∷ []) ∷ []) refl) refl refl tt refl) (omega arith) refl;
      group = at_front 99 int32 one (11 ∷ []) Group (omega arith) refl;
      unknown_wire_type = at_front 99 int32 one (14 ∷ []) BadWireType (omega arith) refl;
      not_text = first_of_all 99 text (fields text first) (10 ∷ 1 ∷ 255 ∷ []) [] no_text texts NotUtf8 0 refl refl refl (not_text 99 texts no_text refl refl refl);
      not_text_before_another_member = first_of_all 99 text_or_number (fields text_or_number first) (10 ∷ 1 ∷ 255 ∷ 16 ∷ 1 ∷ []) (16 ∷ 1 ∷ []) no_text (member 1 scalars.String) NotUtf8 0 refl refl refl
          (not_text 99 (member 1 scalars.String) no_text refl refl refl);
      element_too_long = first_of_all 99 packed (fields packed first) (10 ∷ 10 ∷ too_long []) [] (len 1 (too_long [])) list (Wire VarintTooLong) 0 refl refl refl
          (bad_element 99 list (len 1 (too_long [])) VarintTooLong refl refl refl);
      element_cut_off = first_of_all 99 packed (fields packed first) (10 ∷ 2 ∷ 1 ∷ 128 ∷ []) [] (len 1 (1 ∷ 128 ∷ [])) list (Wire Truncated) 0 refl refl refl
          (bad_element 99 list (len 1 (1 ∷ 128 ∷ [])) Truncated refl refl refl);
      element_of_three_bytes = first_of_all 99 packed_of_four (fields packed_of_four first) (10 ∷ 3 ∷ 0 ∷ 0 ∷ 0 ∷ []) [] (len 1 (0 ∷ 0 ∷ 0 ∷ [])) four (Wire Truncated) 0 refl refl refl
          (bad_element 99 four (len 1 (0 ∷ 0 ∷ 0 ∷ [])) Truncated refl refl refl);
      not_text_in_child = first_of_all 99 child_and_text parent (10 ∷ 3 ∷ 18 ∷ 1 ∷ 255 ∷ []) [] (len 1 (18 ∷ 1 ∷ 255 ∷ [])) child NotUtf8 2 refl refl refl
          (of_child (18 ∷ 1 ∷ 255 ∷ []) NotUtf8
          (first_of_all 98 child_and_text parent (18 ∷ 1 ∷ 255 ∷ []) [] (len 2 (255 ∷ [])) child_text NotUtf8 0 refl refl refl (not_text 98 child_text (len 2 (255 ∷ [])) refl refl refl)));
      cut_off_in_child = first_of_all 99 child_and_text parent (10 ∷ 3 ∷ 18 ∷ 2 ∷ 97 ∷ []) [] (len 1 (18 ∷ 2 ∷ 97 ∷ [])) child (Wire Truncated) 2 refl refl refl
          (of_child (18 ∷ 2 ∷ 97 ∷ []) (Wire Truncated) (at_front 98 child_and_text parent (18 ∷ 2 ∷ 97 ∷ []) Truncated (omega arith) refl));
      group_in_child = first_of_all 99 child_and_text parent (10 ∷ 1 ∷ 11 ∷ []) [] (len 1 (11 ∷ [])) child (Wire Group) 2 refl refl refl
          (of_child (11 ∷ []) (Wire Group) (at_front 98 child_and_text parent (11 ∷ []) Group (omega arith) refl));
      group_in_entry = first_of_all 99 children_by_text holder (10 ∷ 1 ∷ 11 ∷ []) [] (len 1 (11 ∷ [])) entry (Wire Group) 2 refl refl refl
          (in_entry 99 entry (len 1 (11 ∷ [])) scalars.String (Wire Group) 0 refl (at_front 99 children_by_text of_entry (11 ∷ []) Group (omega arith) refl));
      not_text_in_inner_entry = first_of_all 99 children_by_text holder (10 ∷ 7 ∷ 18 ∷ 5 ∷ 10 ∷ 3 ∷ 10 ∷ 1 ∷ 255 ∷ []) [] outer_entry entry NotUtf8 6 refl refl refl
          (in_entry 99 entry outer_entry scalars.String NotUtf8 4 refl in_value);
      root_too_deep = the_root (fields text first) (10 ∷ 1 ∷ 255 ∷ []);
      child_too_deep = first_of_all 0 child_and_text parent (10 ∷ 0 ∷ []) [] (len 1 []) child TooDeep 0 refl refl refl (the_child child (len 1 []) first refl refl);
      missing_value_too_deep = first_of_all 0 children_by_text holder (10 ∷ 0 ∷ []) [] (len 1 []) entry TooDeep 0 refl refl refl
          (missing_value entry (len 1 []) scalars.String first [] refl refl (record { joined = refl; each = tt }) refl (front_empty children_by_text 0 of_entry));
      too_deep_before_text = first_of_all 0 child_and_text parent (10 ∷ 0 ∷ 18 ∷ 1 ∷ 255 ∷ []) (18 ∷ 1 ∷ 255 ∷ []) (len 1 []) child TooDeep 0 refl refl refl
          (the_child child (len 1 []) first refl refl);
      text_before_too_deep = first_of_all 0 child_and_text parent (18 ∷ 1 ∷ 255 ∷ 10 ∷ 0 ∷ []) (10 ∷ 0 ∷ []) (len 2 (255 ∷ [])) child_text NotUtf8 0 refl refl refl
          (not_text 0 child_text (len 2 (255 ∷ [])) refl refl refl);
      too_deep_behind_text = in_record 0 parent (18 ∷ 1 ∷ 97 ∷ 10 ∷ 0 ∷ []) (18 ∷ 1 ∷ 97 ∷ []) (10 ∷ 0 ∷ []) [] (len 1 []) child TooDeep 0 refl
          (front_of_one child_and_text 0 parent (len 2 (97 ∷ [])) child_text (18 ∷ 1 ∷ 97 ∷ [])
          (Spells_from_records_of (18 ∷ 1 ∷ 97 ∷ []) (len 2 (97 ∷ []) ∷ []) refl) refl refl tt refl)
          refl refl refl (the_child child (len 1 []) first refl refl);
      key_before_missing_value = first_of_all 0 children_by_text holder (10 ∷ 3 ∷ 10 ∷ 1 ∷ 255 ∷ []) [] inner_entry entry NotUtf8 2 refl refl refl
          (in_entry 0 entry inner_entry scalars.String NotUtf8 0 refl
          (first_of_all 0 children_by_text of_entry (10 ∷ 1 ∷ 255 ∷ []) [] no_text key NotUtf8 0 refl refl refl (not_text 0 key no_text refl refl refl)));
    }
