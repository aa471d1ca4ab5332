-- What is written of the fields outside another type is the records of their contents.
use Rattle.std.proofs.Common.{◌≡◌, ◌≢◌, ℕ, List, [], ◌∷◌, ◌++◌, filter, flat_map, Bool, true, false, cond, is_none, Some, refl, ap, ap₂, sym, ◌∙◌, append-nil, rules}
use Rattle.std.specs.List.{AllByRecursion}
use Rattle.pg_schema.specs.declared.parts.field.TypeId.{TypeId}
use Rattle.pg_schema.specs.Shape.{Shape, FieldShape, fields, field_at}
use Rattle.pg_schema.specs.ShapeRules.{IsShape, Rising}
use Rattle.pg_wire.specs.Records.{WireRecord}
use Rattle.pg_dyn.specs.message.Message.{Leaf, Part, is_of}
use Rattle.pg_dyn.specs.message.Kept.{Kept, ends, message_of, type_of}
use Rattle.pg_dyn.specs.message.KeptParts.{KeptItem, unknown_of}
use Rattle.pg_dyn.specs.encoding.Lending.{HoldsParts}
use Rattle.pg_dyn.specs.message.Replacing.{all_parts, kept_onto}
use Rattle.pg_dyn.specs.message.Seen.{Rises}
use Rattle.pg_dyn.specs.encoding.Writing.{field_records, records_in, bytes_of}
use Rattle.pg_dyn.specs.encoding.Encoding.{encoded_parts}
use Rattle.pg_dyn.specs.views.Comparison.{outside, unshared_bytes}
use Rattle.pg_dyn.specs.encoding.Written.{records_by}
use Rattle.pg_dyn.specs.encoding.Unshared.{outside_written}
use Rattle.pg_dyn.proofs.Lists.{each_weaker, each_of_all, each-filter, filter-append', each_filtered, flat_map-append'}
use Rattle.pg_dyn.proofs.lemmas.reading.records.Splitting.{found_number}
use Rattle.pg_dyn.proofs.lemmas.fitting.Belonging.{fields-IsType}
use Rattle.pg_dyn.proofs.lemmas.encoding.EncodedFields.{IsFound, IsNumbered, by_fields, fields_shown, merged, other_parts, row_numbered, written_row}
use Rattle.pg_dyn.proofs.lemmas.message.FieldListLaws.{rises-filter}

rising_kept : (test : FieldShape → Bool) (fs : List FieldShape) → Rising fs → Rising (filter test fs)
rising_kept test [] h = tt
rising_kept test (f ∷ fs) h = search (rules, each_filtered, rising_kept test fs h.1)

-- a field that passes is found among those that do
found_kept : (test : FieldShape → Bool) (fs : List FieldShape) (n : ℕ) (g : FieldShape) → field_at fs n ≡ Some g → test g ≡ true → field_at (filter test fs) n ≡ Some g
found_kept test [] n g h passes = absurd (cc)
found_kept test (f ∷ fs) n g h passes = search (rules, found_kept test fs n g)

module _ {C : Type 0} (parts : ℕ → C → List (Part KeptItem)) (shape : Shape) (type : TypeId) (gs : List FieldShape) where
  abbrev is_out : ℕ × C → Bool
  is_out m = is_none (field_at gs m.0)

  abbrev row : ℕ × C → List (Part Leaf)
  row m = written_row parts shape type m

  abbrev Held : ℕ × C → Type 0
  Held m = HoldsParts shape type m.0 (parts m.0 m.1)

  abbrev lone : List FieldShape
  lone = outside (fields shape type) gs

  -- the parts of a field that the other type doesn't have are those of contents that it doesn't have
  out_parts : (n : ℕ) → is_none (field_at gs n) ≡ true → (ms : List (ℕ × C)) → AllByRecursion Held ms → filter (is_of n) (flat_map row ms) ≡ filter (is_of n) (flat_map row (filter is_out ms))
  out_parts n out [] held = refl
  out_parts n out (m ∷ ms) held =
      elim (is_out m) as (λ b. is_out m ≡ b → filter (is_of n) (flat_map row (m ∷ ms)) ≡ filter (is_of n) (flat_map row (cond b (m ∷ filter is_out ms) (filter is_out ms)))) [
        | true ↦ λ e.
            filter-append' (is_of n) (row m) (flat_map row ms)
            ∙ ap (λ xs. filter (is_of n) (row m) ++ xs) (out_parts n out ms held.1)
            ∙ sym (filter-append' (is_of n) (row m) (flat_map row (filter is_out ms)))
        | false ↦ λ e.
            let apart : m.0 ≢ n = λ same. absurd (let no : true ≡ false = sym out ∙ ap (λ k. is_none (field_at gs k)) (sym same) ∙ e in cc) in
            filter-append' (is_of n) (row m) (flat_map row ms)
            ∙ ap (λ xs. xs ++ filter (is_of n) (flat_map row ms)) (other_parts row m n apart (row_numbered parts shape type m held.0)) ∙ out_parts n out ms held.1
      ] refl

  out_records : (fs : List FieldShape) (ms : List (ℕ × C)) → AllByRecursion (λ f. is_none (field_at gs f.number) ≡ true) fs → AllByRecursion Held ms → records_in fs (flat_map row ms) ≡ records_in fs (flat_map row (filter is_out ms))
  out_records [] ms h held = refl
  out_records (f ∷ fs) ms h held = ap₂ (λ ps rs. field_records f ps ++ rs) (out_parts f.number h.0 ms held) (out_records fs ms h.1 held)

  lone_out : AllByRecursion (λ (f : FieldShape). is_none (field_at gs f.number) ≡ true) lone
  lone_out =
      each_weaker (λ (f : FieldShape). Unit {0} × (is_none (field_at gs f.number) ≡ true)) (λ f. is_none (field_at gs f.number) ≡ true) (λ f k. k.1) lone
      (each-filter (λ (f : FieldShape). Unit {0}) (λ (f : FieldShape). is_none (field_at gs f.number)) (fields shape type) (each_of_all (λ (f : FieldShape). Unit {0}) (λ f. tt) (fields shape type)))

  -- a content that the other type doesn't have, and the field that holds it
  record Lone (m : ℕ × C) : Type 0 where
    held : Held m
    out : is_out m ≡ true

  found_out : (m : ℕ × C) → (l : Lone m) → field_at lone m.0 ≡ Some l.held.field
  found_out m l = search (rules, found_number, found_kept)

  lone_contents : (ms : List (ℕ × C)) → AllByRecursion Held ms → AllByRecursion Lone (filter is_out ms)
  lone_contents ms hold = search (rules, each_weaker, each-filter)

  only_out : (ms : List (ℕ × C)) → flat_map (λ (m : ℕ × C). bytes_of (records_by (field_at (fields shape type) m.0) (row m))) (filter is_out ms) ≡ flat_map (outside_written parts shape type gs) ms
  only_out [] = refl
  only_out (m ∷ ms) = search (rules, only_out ms)

  lone_bytes : (xs : List (ℕ × C)) → AllByRecursion Lone xs → bytes_of (by_fields row lone xs) ≡ flat_map (λ (m : ℕ × C). bytes_of (records_by (field_at (fields shape type) m.0) (row m))) xs
  lone_bytes [] h = refl
  lone_bytes (x ∷ xs) h =
      flat_map-append' (λ (r : WireRecord). r.bytes) (records_by (field_at lone x.0) (row x)) (by_fields row lone xs)
      ∙ ap₂ (λ o ys. bytes_of (records_by o (row x)) ++ ys) (found_out x h.0 ∙ sym h.0.held.found) (lone_bytes xs h.1)

  -- What is written of the fields outside the other type, content by content.
  pub outside_is : IsShape shape → (ms : List (ℕ × C)) (us : List WireRecord) → Rises ms → AllByRecursion Held ms → flat_map (outside_written parts shape type gs) ms ≡ unshared_bytes shape type gs (message_of (kept_onto (all_parts parts ms) (ends type us)))
  outside_is is_shape ms us rises hold =
      let parts_are : encoded_parts shape type (message_of (kept_onto (all_parts parts ms) (ends type us))) ≡ flat_map row ms = fields_shown parts shape type ms (ends type us) hold ∙ append-nil (flat_map row ms) in
      let alone = lone_contents ms hold in
      let found = each_weaker Lone (IsFound row lone) (λ m l. (l.held.field, found_out m l)) (filter is_out ms) alone in
      let numbered = each_weaker Lone (IsNumbered row) (λ m l. row_numbered parts shape type m l.held) (filter is_out ms) alone in
      let by : records_in lone (flat_map row (filter is_out ms)) ≡ by_fields row lone (filter is_out ms) =
      merged row lone (filter is_out ms) (rising_kept (λ (f : FieldShape). is_none (field_at gs f.number)) (fields shape type) (fields-IsType shape type is_shape).rising) (rises-filter is_out ms rises) numbered found in
      sym (ap (λ ps. bytes_of (records_in lone ps)) parts_are ∙ ap bytes_of (out_records lone ms lone_out hold ∙ by) ∙ lone_bytes (filter is_out ms) alone ∙ only_out ms)

-- the same of a message whose contents are lent
pub lent_outside : {C : Type 0} (parts : ℕ → C → List (Part KeptItem)) (shape : Shape) (gs : List FieldShape) (m : Kept) (ms : List (ℕ × C)) → IsShape shape → m ≡ kept_onto (all_parts parts ms) (ends (type_of m) (unknown_of m)) → Rises ms
    → AllByRecursion (λ (c : ℕ × C). HoldsParts shape (type_of m) c.0 (parts c.0 c.1)) ms → flat_map (outside_written parts shape (type_of m) gs) ms ≡ unshared_bytes shape (type_of m) gs (message_of m)
lent_outside parts shape gs m ms is_shape whole rises hold =
    outside_is parts shape (type_of m) gs is_shape ms (unknown_of m) rises hold
    ∙ ap (λ k. unshared_bytes shape (type_of m) gs (message_of k)) (sym whole)
