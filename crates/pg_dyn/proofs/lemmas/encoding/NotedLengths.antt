-- The lengths that are noted of a message are those of its contents, one after the other.
use Rattle.std.proofs.Common.{◌≡◌, ℕ, ◌<◌, nat_eq, List, [], ◌∷◌, ◌++◌, length, flat_map, Bool, true, false, cond, Option, Some, refl, ap, ap₂, sym, ◌∙◌, arith, append_assoc, eq-eqb, rules}
use Rattle.std.proofs.lemmas.Bool.{ne_eqb}
use Rattle.std.specs.List.{AllByRecursion}
use Rattle.pg_schema.specs.declared.parts.field.TypeId.{TypeId}
use Rattle.pg_schema.specs.declared.parts.field.Element.{Element}
use Rattle.pg_schema.specs.Shape.{Shape, FieldShape, fields, field_at}
use Rattle.pg_schema.specs.ShapeRules.{IsShape}
use Rattle.pg_wire.specs.Records.{WireRecord}
use Rattle.pg_dyn.specs.message.Message.{Leaf, Part}
use Rattle.pg_dyn.specs.word.Coding.{body, form}
use Rattle.pg_dyn.specs.message.Kept.{Kept, ends, holds, type_of}
use Rattle.pg_dyn.specs.message.KeptParts.{AreOf, KeptItem, Msg, Plain, unknown_of}
use Rattle.pg_dyn.specs.encoding.Lending.{HoldsParts, IsLone, bare, bare_leaf}
use Rattle.pg_dyn.specs.message.Replacing.{all_parts, kept_onto, kept_part}
use Rattle.pg_dyn.specs.message.Seen.{Rises}
use Rattle.pg_dyn.specs.encoding.Writing.{is_packed}
use Rattle.pg_dyn.specs.encoding.Written.{capped, field_lengths, front_bodies, inner_lengths, item_lengths, lengths_behind, lengths_by, packed_body, packed_lengths, parts_lengths, row_behind, row_by}
use Rattle.pg_dyn.proofs.lemmas.encoding.EncodedFields.{held_numbered}
use Rattle.pg_dyn.proofs.lemmas.encoding.EncodeSteps.{HeldContents, field_is, lone_of_part, packable, packed_no_lengths, packs}
use Rattle.pg_dyn.proofs.Lists.{each_weaker}
use Rattle.pg_dyn.proofs.lemmas.message.ReplacingLaws.{kept_onto-append}
use Rattle.pg_dyn.proofs.lemmas.reading.records.Splitting.{found_number}

if_same : (b : Bool) → ◌≡◌ {A = List ℕ} (cond b [] []) []
if_same true = refl
if_same false = refl

-- The bodies at the front.

other_front : (e : Element) (n k : ℕ) (key : Option Leaf) (item : KeptItem) (later : Kept) → nat_eq k n ≡ false → front_bodies e n (kept_part k key item later) ≡ []
other_front e n k key (Plain l leaf) later other = ap (λ b. cond b (body (form e) leaf ++ front_bodies e n later) []) other
other_front e n k key (Msg l m) later other = refl

parts_front : (e : Element) (n k : ℕ) (ps : List (Part KeptItem)) (later : Kept) → AreOf k ps → nat_eq k n ≡ false → front_bodies e n later ≡ [] → front_bodies e n (kept_onto ps later) ≡ []
parts_front e n k [] later numbered other none = none
parts_front e n k (p ∷ ps) later numbered other none = other_front e n p.number p.key p.item (kept_onto ps later) (ap (λ x. nat_eq x n) numbered.0 ∙ other)

own_front : (e : Element) (n : ℕ) (key : Option Leaf) (item : KeptItem) (later : Kept) → IsLone (bare item) → front_bodies e n (kept_part n key item later) ≡ body (form e) (bare_leaf (bare item)) ++ front_bodies e n later
own_front e n key (Plain l leaf) later lone = ap (λ b. cond b (body (form e) leaf ++ front_bodies e n later) []) (eq-eqb n n refl)
own_front e n key (Msg l m) later lone = absurd lone

row_front : (e : Element) (n : ℕ) (ps : List (Part KeptItem)) (later : Kept) → AreOf n ps → AllByRecursion (λ (p : Part KeptItem). IsLone (bare p.item)) ps → front_bodies e n later ≡ []
    → front_bodies e n (kept_onto ps later) ≡ packed_body (λ (p : Part KeptItem). bare p.item) e ps
row_front e n [] later numbered lone none = none
row_front e n (p ∷ ps) later numbered lone none =
    search (rules, own_front, row_front e n ps later numbered.1 lone.1 none)

-- The lengths of a row of parts.

module _ (shape : Shape) (fs : List FieldShape) where
  -- nothing is noted of a list at that number
  abbrev NoRow : ℕ → ℕ → Type 0
  NoRow before n = (m : Kept) → row_behind fs before n m ≡ []

  same_row : (n : ℕ) → NoRow n n
  same_row n m = ap (λ b. cond b [] (row_by (field_at fs n) n m)) (eq-eqb n n refl)

  not_packed : (n : ℕ) (f : FieldShape) → field_at fs n ≡ Some f → is_packed f.presence ≡ false → (before : ℕ) → NoRow before n
  not_packed n f found single before m = search (rules, if_same)

  part_inner : (n : ℕ) (k : Option Leaf) (item : KeptItem) (later : Kept) (before : ℕ) → NoRow before n → lengths_behind shape fs before (kept_part n k item later) ≡ item_lengths shape (bare item) ++ lengths_behind shape fs n later
  part_inner n k (Plain l leaf) later before none = ap (λ xs. xs ++ lengths_behind shape fs n later) (none (holds n k l leaf later))
  part_inner n k (Msg l m) later before none = refl

  leaf_inner : (n : ℕ) (k : Option Leaf) (item : KeptItem) (later : Kept) (before : ℕ) → IsLone (bare item)
      → lengths_behind shape fs before (kept_part n k item later) ≡ row_behind fs before n (kept_part n k item later) ++ lengths_behind shape fs n later
  leaf_inner n k (Plain l leaf) later before lone = refl
  leaf_inner n k (Msg l m) later before lone = absurd lone

  abbrev noted : List (Part KeptItem) → List ℕ
  noted ps = flat_map (λ (p : Part KeptItem). item_lengths shape (bare p.item)) ps

  -- Of what comes later the lengths are the same, whether an item is before it or none.

  parts_inner : (n : ℕ) (ps : List (Part KeptItem)) (later : Kept) (after : List ℕ) (before : ℕ) → AreOf n ps → NoRow before n → lengths_behind shape fs before later ≡ after → lengths_behind shape fs n later ≡ after
      → lengths_behind shape fs before (kept_onto ps later) ≡ noted ps ++ after
  parts_inner n [] later after before numbered none here there = here
  parts_inner n (p ∷ ps) later after before numbered none here there =
      ap (λ k. lengths_behind shape fs before (kept_part k p.key p.item (kept_onto ps later))) numbered.0
      ∙ part_inner n p.key p.item (kept_onto ps later) before none
      ∙ ap (λ xs. item_lengths shape (bare p.item) ++ xs) (parts_inner n ps later after n numbered.1 (same_row n) there there)
      ∙ sym (append_assoc (item_lengths shape (bare p.item)) (noted ps) after)

  row_inner : (n : ℕ) (f : FieldShape) → field_at fs n ≡ Some f → is_packed f.presence ≡ true → (ps : List (Part KeptItem)) (later : Kept) (after : List ℕ) (before : ℕ) → AreOf n ps
      → AllByRecursion (λ (p : Part KeptItem). IsLone (bare p.item)) ps → nat_eq n before ≡ false → front_bodies f.element n later ≡ [] → lengths_behind shape fs before later ≡ after → lengths_behind shape fs n later ≡ after
      → lengths_behind shape fs before (kept_onto ps later) ≡ packed_lengths (λ (p : Part KeptItem). bare p.item) f.element ps ++ after
  row_inner n f found packed [] later after before numbered lone other none here there = here
  row_inner n f found packed (p ∷ ps) later after before numbered lone other none here there =
      let m = kept_part n p.key p.item (kept_onto ps later) in
      let front = ap (λ k. front_bodies f.element n (kept_part k p.key p.item (kept_onto ps later))) (sym numbered.0) ∙ row_front f.element n (p ∷ ps) later numbered lone none in
      let row : row_behind fs before n (kept_part n p.key p.item (kept_onto ps later)) ≡ capped (length (packed_body (λ (q : Part KeptItem). bare q.item) f.element (p ∷ ps))) ∷ [] =
      ap (λ b. cond b [] (row_by (field_at fs n) n m)) other ∙ ap (λ o. row_by o n m) found
      ∙ ap (λ b. cond b (capped (length (front_bodies f.element n m)) ∷ []) []) packed ∙ ap (λ (xs : List ℕ). capped (length xs) ∷ []) front in
      let rest = parts_inner n ps later after n numbered.1 (same_row n) there there ∙ ap (λ xs. xs ++ after) (packed_no_lengths (λ (q : Part KeptItem). bare q.item) shape ps lone.1) in
      ap (λ k. lengths_behind shape fs before (kept_part k p.key p.item (kept_onto ps later))) numbered.0
      ∙ leaf_inner n p.key p.item (kept_onto ps later) before lone.0 ∙ ap₂ (λ xs ys. xs ++ ys) row rest

  content_inner : (n : ℕ) (f : FieldShape) → field_at fs n ≡ Some f → (ps : List (Part KeptItem)) (later : Kept) (after : List ℕ) (before : ℕ) → AreOf n ps
      → (is_packed f.presence ≡ true → AllByRecursion (λ (p : Part KeptItem). IsLone (bare p.item)) ps) → nat_eq n before ≡ false → front_bodies f.element n later ≡ [] → lengths_behind shape fs before later ≡ after
      → lengths_behind shape fs n later ≡ after → lengths_behind shape fs before (kept_onto ps later) ≡ field_lengths shape f ps ++ after
  content_inner n f found ps later after before numbered lone other none here there = of (is_packed f.presence) refl
    where
      of : (b : Bool) → is_packed f.presence ≡ b → lengths_behind shape fs before (kept_onto ps later) ≡ field_lengths shape f ps ++ after
      of true packed =
          row_inner n f found packed ps later after before numbered (lone packed) other none here there
          ∙ ap (λ b. cond b (packed_lengths (λ (p : Part KeptItem). bare p.item) f.element ps) (noted ps) ++ after) (sym packed)
      of false packed =
          parts_inner n ps later after before numbered (not_packed n f found packed before) here there
          ∙ ap (λ b. cond b (packed_lengths (λ (p : Part KeptItem). bare p.item) f.element ps) (noted ps) ++ after) (sym packed)

-- The lengths of a message.

module _ {C : Type 0} (parts : ℕ → C → List (Part KeptItem)) (shape : Shape) (m : Kept) where
  abbrev Numbered : List (ℕ × C) → Type 0
  Numbered ms = AllByRecursion (λ (c : ℕ × C). AreOf c.0 (parts c.0 c.1)) ms

  -- none of a number below those of all fields
  fields_front : (e : Element) (n : ℕ) (ms : List (ℕ × C)) (type : TypeId) (us : List WireRecord) → AllByRecursion (λ (c : ℕ × C). n < c.0) ms → HeldContents parts shape m ms → front_bodies e n (kept_onto (all_parts parts ms) (ends type us)) ≡ []
  fields_front e n [] type us below held = refl
  fields_front e n (c ∷ ms) type us below held =
      ap (front_bodies e n) (kept_onto-append (parts c.0 c.1) (all_parts parts ms) (ends type us))
      ∙ parts_front e n c.0 (parts c.0 c.1) (kept_onto (all_parts parts ms) (ends type us)) (held_numbered shape (type_of m) c.0 (parts c.0 c.1) held.0) (ne_eqb c.0 n (λ same. omega (arith, same, below.0))) (fields_front e n ms type us below.1 held.1)

  abbrev pub content_lengths : ℕ × C → List ℕ
  content_lengths c = parts_lengths shape (type_of m) c.0 (parts c.0 c.1)

  pub field_noted : (c : ℕ × C) (f : FieldShape) → field_at (fields shape (type_of m)) c.0 ≡ Some f → field_lengths shape f (parts f.number c.1) ≡ content_lengths c
  field_noted c f found = search (rules, found_number)

  held_inner : IsShape shape → (c : ℕ × C) → HoldsParts shape (type_of m) c.0 (parts c.0 c.1) → (later : Kept) (after : List ℕ) (before : ℕ) → before < c.0 → ((e : Element) → front_bodies e c.0 later ≡ [])
      → lengths_behind shape (fields shape (type_of m)) before later ≡ after → lengths_behind shape (fields shape (type_of m)) c.0 later ≡ after
      → lengths_behind shape (fields shape (type_of m)) before (kept_onto (parts c.0 c.1) later) ≡ content_lengths c ++ after
  held_inner is_shape c held later after before below none here there =
      let f = held.field in
      content_inner shape (fields shape (type_of m)) c.0 f held.found (parts c.0 c.1) later after before (held_numbered shape (type_of m) c.0 (parts c.0 c.1) held)
      (λ packed. lone_of_part shape f (parts c.0 c.1) (packable f.presence f.element packed (packs shape (type_of m) is_shape c.0 f held.found)) held.each)
      (ne_eqb c.0 before (λ same. omega (arith, same, below))) (none f.element) here there
      ∙ ap (λ o. lengths_by shape o (parts c.0 c.1) ++ after) (sym held.found)

  fields_inner : IsShape shape → (ms : List (ℕ × C)) (us : List WireRecord) (before : ℕ) → AllByRecursion (λ (c : ℕ × C). before < c.0) ms → Rises ms → HeldContents parts shape m ms
      → lengths_behind shape (fields shape (type_of m)) before (kept_onto (all_parts parts ms) (ends (type_of m) us)) ≡ flat_map content_lengths ms
  fields_inner is_shape [] us before below rises held = refl
  fields_inner is_shape (c ∷ ms) us before below rises held =
      ap (lengths_behind shape (fields shape (type_of m)) before) (kept_onto-append (parts c.0 c.1) (all_parts parts ms) (ends (type_of m) us))
      ∙ held_inner is_shape c held.0 (kept_onto (all_parts parts ms) (ends (type_of m) us)) (flat_map content_lengths ms) before below.0 (λ e. fields_front e c.0 ms (type_of m) us rises.0 held.1)
      (fields_inner is_shape ms us before below.1 rises.1 held.1) (fields_inner is_shape ms us c.0 rises.0 rises.1 held.1)

  above_zero : IsShape shape → (ms : List (ℕ × C)) → HeldContents parts shape m ms → AllByRecursion (λ (c : ℕ × C). 0 < c.0) ms
  above_zero is_shape ms held = each_weaker (λ (c : ℕ × C). HoldsParts shape (type_of m) c.0 (parts c.0 c.1)) (λ (c : ℕ × C). 0 < c.0) above ms held
    where
      above : (c : ℕ × C) → HoldsParts shape (type_of m) c.0 (parts c.0 c.1) → 0 < c.0
      above c h = let number = found_number (fields shape (type_of m)) c.0 h.field h.found in let is_field = field_is shape (type_of m) is_shape c.0 h.field h.found in omega (arith, number, is_field.number_above)

  pub inner_is : (ms : List (ℕ × C)) → IsShape shape → m ≡ kept_onto (all_parts parts ms) (ends (type_of m) (unknown_of m)) → Rises ms → HeldContents parts shape m ms → flat_map content_lengths ms ≡ inner_lengths shape m
  inner_is ms is_shape whole rises held = search (rules, fields_inner, above_zero)
