-- An encoding goes over the fields of a message.
use Rattle.std.proofs.Common.{true, ◌≡◌, ◌≢◌, ℕ, ◌<◌, List, [], ◌∷◌, ◌++◌, map, filter, flat_map, Option, Some, cond, refl, ap, sym, subst, ◌∙◌, ⊎_elim, arith, eq-eqb, ne_eqb, append_assoc, rules}
use Rattle.std.specs.List.{AllByRecursion}
use Rattle.std.proofs.lemmas.Bool.{cases_eq}
use Rattle.std.proofs.lemmas.List.{append-nil}
use Rattle.pg_schema.specs.declared.parts.field.TypeId.{TypeId}
use Rattle.pg_schema.specs.Shape.{Shape, FieldShape, fields, field_at}
use Rattle.pg_schema.specs.ShapeRules.{Rising}
use Rattle.pg_wire.specs.Records.{WireRecord}
use Rattle.pg_dyn.specs.message.Message.{Leaf, Bytes, Part, is_of}
use Rattle.pg_dyn.specs.message.Message as model
use Rattle.pg_dyn.specs.message.Kept.{Kept, message_of, type_of}
use Rattle.pg_dyn.specs.message.KeptParts.{AreOf, KeptItem, Msg, Plain}
use Rattle.pg_dyn.specs.message.Kept as kept
use Rattle.pg_dyn.specs.message.KeptParts as kept_parts
use Rattle.pg_dyn.specs.encoding.Lending.{HoldsParts}
use Rattle.pg_dyn.specs.message.Replacing.{all_parts, kept_onto, kept_part}
use Rattle.pg_dyn.specs.fitting.PartsFit.{HoldsItem, IsPartOf}
use Rattle.pg_dyn.specs.message.Seen.{Rises}
use Rattle.pg_dyn.specs.encoding.Writing.{field_records, records_in, bytes_of}
use Rattle.pg_dyn.specs.encoding.Encoding.{encoded_parts, enc}
use Rattle.pg_dyn.specs.encoding.Written.{records_by, written_part}
use Rattle.pg_dyn.proofs.lemmas.fitting.Belonging.{child_type_is}
use Rattle.pg_dyn.proofs.Lists.{each-map, each_weaker, filter-append', filter_all, filter_none}
use Rattle.pg_dyn.proofs.lemmas.message.ReplacingLaws.{kept_onto-append, unknown_of-kept_onto}
use Rattle.pg_dyn.proofs.lemmas.reading.records.Splitting.{found_later, found_number, field_records_none, records_in_none}

module _ (shape : Shape) (type : TypeId) where
  abbrev shown : Kept → List (Part Leaf)
  shown m = encoded_parts shape type (message_of m)

  item_shown : (f : FieldShape) (n : ℕ) (k : Option Leaf) (item : KeptItem) (later : Kept) → field_at (fields shape type) n ≡ Some f → HoldsItem shape f item
      → shown (kept_part n k item later) ≡ written_part shape (record { number = n; key = k; item = item }) ∷ shown later
  unfolding enc
  item_shown f n k (Plain l leaf) later found h = refl
  item_shown f n k (Msg l m) later found h =
      ap (λ (u : TypeId). record { number = n; key = k; item = Bytes (enc shape u (message_of m)) } ∷ shown later) (child_type_is (fields shape type) n f (type_of m) found h.2)

  parts_shown : (f : FieldShape) (n : ℕ) (ps : List (Part KeptItem)) (later : Kept) → field_at (fields shape type) n ≡ Some f → AreOf n ps → AllByRecursion (IsPartOf shape f) ps
      → shown (kept_onto ps later) ≡ map (written_part shape) ps ++ shown later
  parts_shown f n [] later found numbered fit = refl
  parts_shown f n (p ∷ ps) later found numbered fit =
      item_shown f p.number p.key p.item (kept_onto ps later) (ap (field_at (fields shape type)) numbered.0 ∙ found) fit.0.item
      ∙ ap (λ qs. written_part shape p ∷ qs) (parts_shown f n ps later found numbered.1 fit.1)

-- the parts that a field holds are of its number
pub held_numbered : (shape : Shape) (type : TypeId) (n : ℕ) (ps : List (Part KeptItem)) → HoldsParts shape type n ps → AreOf n ps
held_numbered shape type n ps h = search (rules, each_weaker, found_number)

-- Rows of parts, each of one number.
module _ {C : Type 0} (row : ℕ × C → List (Part Leaf)) where
  abbrev pub IsNumbered : ℕ × C → Type 0
  IsNumbered m = AllByRecursion (λ (q : Part Leaf). q.number ≡ m.0) (row m)

  own_parts : (m : ℕ × C) → IsNumbered m → filter (is_of m.0) (row m) ≡ row m
  own_parts m h = filter_all (is_of m.0) (row m) (each_weaker (λ (q : Part Leaf). q.number ≡ m.0) (λ (q : Part Leaf). is_of m.0 q ≡ true) (λ q e. eq-eqb q.number m.0 e) (row m) h)

  pub other_parts : (m : ℕ × C) (k : ℕ) → m.0 ≢ k → IsNumbered m → filter (is_of k) (row m) ≡ []
  other_parts m k apart h = search (rules, filter_none, each_weaker, ne_eqb)

  none_of : (k : ℕ) (ms : List (ℕ × C)) → AllByRecursion (λ (m : ℕ × C). k < m.0) ms → AllByRecursion IsNumbered ms → filter (is_of k) (flat_map row ms) ≡ []
  none_of k [] h numbered = refl
  none_of k (m ∷ ms) h numbered =
      search (rules, arith, filter-append', other_parts, none_of k ms h.1 numbered.1)

  -- parts of a lower number don't matter to later fields
  skipped : (fs : List FieldShape) (m : ℕ × C) (ps : List (Part Leaf)) → IsNumbered m → AllByRecursion (λ f. m.0 < f.number) fs → records_in fs (row m ++ ps) ≡ records_in fs ps
  skipped [] m ps numbered h = refl
  skipped (f ∷ fs) m ps numbered h =
      search (rules, arith, filter-append', other_parts, skipped fs m ps numbered h.1)

  abbrev pub IsFound : List FieldShape → ℕ × C → Type 0
  IsFound fs m = (g : FieldShape) × (field_at fs m.0 ≡ Some g)

  abbrev pub by_fields : List FieldShape → List (ℕ × C) → List WireRecord
  by_fields fs ms = flat_map (λ (m : ℕ × C). records_by (field_at fs m.0) (row m)) ms

  found_above : (f : FieldShape) (fs : List FieldShape) (n : ℕ) (g : FieldShape) → AllByRecursion (λ x. f.number < x.number) fs → field_at fs n ≡ Some g → f.number < n
  found_above f [] n g h k = absurd (cc)
  found_above f (x ∷ fs) n g h k =
      ⊎_elim (λ here. let low = h.0 in omega arith) (λ later. found_above f fs n g h.1 (found_later x g fs n later k)) (cases_eq x.number n)

  -- the first schema field doesn't matter to later numbers
  later_fields : (f : FieldShape) (fs : List FieldShape) (ms : List (ℕ × C)) → AllByRecursion (λ (m : ℕ × C). f.number < m.0) ms → by_fields (f ∷ fs) ms ≡ by_fields fs ms
  later_fields f fs [] h = refl
  later_fields f fs (m ∷ ms) h = search (rules, arith, ne_eqb, later_fields f fs ms h.1)

  later_found : (f : FieldShape) (fs : List FieldShape) (ms : List (ℕ × C)) → AllByRecursion (λ (m : ℕ × C). f.number < m.0) ms → AllByRecursion (IsFound (f ∷ fs)) ms → AllByRecursion (IsFound fs) ms
  later_found f fs [] h k = tt
  later_found f fs (m ∷ ms) h k = search (rules, arith, found_later, later_found f fs ms h.1 k.1)

  above_all : (k : ℕ) (m : ℕ × C) (ms : List (ℕ × C)) → k < m.0 → AllByRecursion (λ (x : ℕ × C). m.0 < x.0) ms → AllByRecursion (λ (x : ℕ × C). k < x.0) ms
  above_all k m ms low h = each_weaker (λ (x : ℕ × C). m.0 < x.0) (λ (x : ℕ × C). k < x.0) (λ x high. let k_below : k < x.0 = omega arith in k_below) ms h

  -- the records of an encoding are those of the rows, field by field
  pub merged : (fs : List FieldShape) (ms : List (ℕ × C)) → Rising fs → Rises ms → AllByRecursion IsNumbered ms → AllByRecursion (IsFound fs) ms → records_in fs (flat_map row ms) ≡ by_fields fs ms
  merged fs [] rising rises numbered found = records_in_none fs
  merged [] (m ∷ ms) rising rises numbered found = search rules
  merged (f ∷ fs) (m ∷ ms) rising rises numbered found =
      ⊎_elim (at_field (merged fs ms rising.1 rises.1 numbered.1)) (past_field (merged fs (m ∷ ms) rising.1 rises numbered)) (cases_eq f.number m.0)
    where
      at_field : (AllByRecursion (IsFound fs) ms → records_in fs (flat_map row ms) ≡ by_fields fs ms) → f.number ≡ m.0 → records_in (f ∷ fs) (flat_map row (m ∷ ms)) ≡ by_fields (f ∷ fs) (m ∷ ms)
      at_field rest here =
          let mine : filter (is_of f.number) (flat_map row (m ∷ ms)) ≡ row m =
          ap (λ n. filter (is_of n) (flat_map row (m ∷ ms))) here ∙ filter-append' (is_of m.0) (row m) (flat_map row ms)
          ∙ ap (λ xs. xs ++ filter (is_of m.0) (flat_map row ms)) (own_parts m numbered.0) ∙ ap (λ xs. row m ++ xs) (none_of m.0 ms rises.0 numbered.1) ∙ append-nil (row m) in
          let higher = subst (λ n. AllByRecursion (λ (g : FieldShape). n < g.number) fs) here rising.0 in
          let above = subst (λ n. AllByRecursion (λ (x : ℕ × C). n < x.0) ms) (sym here) rises.0 in
          let others_are : records_in fs (flat_map row (m ∷ ms)) ≡ by_fields (f ∷ fs) ms =
          skipped fs m (flat_map row ms) numbered.0 higher ∙ rest (later_found f fs ms above found.1) ∙ sym (later_fields f fs ms above) in
          ap (λ ps. field_records f ps ++ records_in fs (flat_map row (m ∷ ms))) mine ∙ ap (λ rs. field_records f (row m) ++ rs) others_are
          ∙ ap (λ b. records_by (cond b (Some f) (field_at fs m.0)) (row m) ++ by_fields (f ∷ fs) ms) (sym (eq-eqb f.number m.0 here))

      past_field : (AllByRecursion (IsFound fs) (m ∷ ms) → records_in fs (flat_map row (m ∷ ms)) ≡ by_fields fs (m ∷ ms)) → f.number ≢ m.0 → records_in (f ∷ fs) (flat_map row (m ∷ ms)) ≡ by_fields (f ∷ fs) (m ∷ ms)
      past_field rest apart =
          let low : f.number < m.0 = found_above f fs m.0 found.0.0 rising.0 (found_later f found.0.0 fs m.0 apart found.0.1) in
          let above : AllByRecursion (λ (x : ℕ × C). f.number < x.0) (m ∷ ms) = (low, above_all f.number m ms low rises.0) in
          ap (λ ps. field_records f ps ++ records_in fs (flat_map row (m ∷ ms))) (none_of f.number (m ∷ ms) above numbered) ∙ ap (λ rs. rs ++ records_in fs (flat_map row (m ∷ ms))) (field_records_none f)
          ∙ rest (later_found f fs (m ∷ ms) above found) ∙ sym (later_fields f fs (m ∷ ms) above)

unknown_of-message_of : (m : Kept) → model.unknown_of (message_of m) ≡ kept_parts.unknown_of m
unknown_of-message_of (kept.ends type us) = refl
unknown_of-message_of (kept.holds n k b l later) = unknown_of-message_of later
unknown_of-message_of (kept.nests n k b c later) = unknown_of-message_of later

-- The contents of a message, whatever a content is.
module _ {C : Type 0} (parts : ℕ → C → List (Part KeptItem)) (shape : Shape) (type : TypeId) where
  abbrev pub Holds : ℕ × C → Type 0
  Holds m = HoldsParts shape type m.0 (parts m.0 m.1)

  abbrev pub written_row : ℕ × C → List (Part Leaf)
  written_row m = map (written_part shape) (parts m.0 m.1)

  pub row_numbered : (m : ℕ × C) → Holds m → IsNumbered written_row m
  row_numbered m h = each-map (λ (q : Part Leaf). q.number ≡ m.0) (written_part shape) (parts m.0 m.1) (held_numbered shape type m.0 (parts m.0 m.1) h)

  pub fields_shown : (ms : List (ℕ × C)) (later : Kept) → AllByRecursion Holds ms → encoded_parts shape type (message_of (kept_onto (all_parts parts ms) later)) ≡ flat_map written_row ms ++ encoded_parts shape type (message_of later)
  fields_shown [] later h = refl
  fields_shown (m ∷ ms) later h =
      ap (shown shape type) (kept_onto-append (parts m.0 m.1) (all_parts parts ms) later)
      ∙ parts_shown shape type h.0.field m.0 (parts m.0 m.1) (kept_onto (all_parts parts ms) later) h.0.found (held_numbered shape type m.0 (parts m.0 m.1) h.0) h.0.each
      ∙ ap (λ ps. written_row m ++ ps) (fields_shown ms later h.1)
      ∙ sym (append_assoc (written_row m) (flat_map written_row ms) (shown shape type later))

  pub encodes_by_fields : (ms : List (ℕ × C)) (unknown : List WireRecord) → Rising (fields shape type) → Rises ms → AllByRecursion Holds ms
      → enc shape type (message_of (kept_onto (all_parts parts ms) (kept.ends type unknown))) ≡ bytes_of (by_fields written_row (fields shape type) ms) ++ bytes_of unknown
  unfolding enc
  encodes_by_fields ms unknown rising rises hold =
      let m = message_of (kept_onto (all_parts parts ms) (kept.ends type unknown)) in
      let parts_are : encoded_parts shape type (message_of (kept_onto (all_parts parts ms) (kept.ends type unknown))) ≡ flat_map written_row ms =
      fields_shown ms (kept.ends type unknown) hold ∙ append-nil (flat_map written_row ms) in
      let unknown_are : model.unknown_of (message_of (kept_onto (all_parts parts ms) (kept.ends type unknown))) ≡ unknown =
      unknown_of-message_of (kept_onto (all_parts parts ms) (kept.ends type unknown)) ∙ unknown_of-kept_onto (all_parts parts ms) (kept.ends type unknown) in
      ap (λ ps. bytes_of (records_in (fields shape type) ps) ++ bytes_of (model.unknown_of (message_of (kept_onto (all_parts parts ms) (kept.ends type unknown))))) parts_are
      ∙ ap (λ us. bytes_of (records_in (fields shape type) (flat_map written_row ms)) ++ bytes_of us) unknown_are
      ∙ ap (λ rs. bytes_of rs ++ bytes_of unknown)
      (merged written_row (fields shape type) ms rising rises (each_weaker Holds (IsNumbered written_row) row_numbered ms hold) (each_weaker Holds (IsFound written_row (fields shape type)) (λ x k. (k.field, k.found)) ms hold))
