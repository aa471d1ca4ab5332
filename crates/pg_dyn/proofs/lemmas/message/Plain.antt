-- The content of a field that is no map is read again from the records that are written of it.
use Rattle.std.proofs.Common.{◌≡◌, ℕ, ◌≤◌, List, [], ◌∷◌, ◌++◌, map, flat_map, length, true, false, Some, Ok, refl, ap, arith, append-nil}
use Rattle.std.specs.List.{AllByRecursion}
use Rattle.pg_schema.specs.declared.parts.field.Element.{Element}
use Rattle.pg_schema.specs.declared.parts.field.Presence.{Presence}
use Rattle.pg_schema.specs.Shape.{FieldShape, is_packable, is_repeated}
use Rattle.pg_wire.specs.declared.record.WireType.{WireType}
use Rattle.pg_wire.specs.declared.record.WireType.TheVariants.{Varint, I64, Len, I32}
use Rattle.pg_wire.specs.Reading.{row}
use Rattle.pg_wire.specs.Varint.{IsVarint}
use Rattle.pg_wire.specs.Records.{written}
use Rattle.pg_wire.proofs.Rows.{row-joined}
use Rattle.pg_wire.proofs.Varints.{varint_at-append, length-IsVarint}
use Rattle.pg_wire.proofs.RecordLaws.{exactly-append}
use Rattle.pg_dyn.specs.reading.Optional.{all_some}
use Rattle.pg_dyn.specs.message.Message.{Leaf}
use Rattle.pg_dyn.specs.laws.Bodies.{IsNestedLeaf, IsReadAs, record_with}
use Rattle.pg_dyn.specs.word.Coding.{HasShape, form, form_wire, leaf_in, element_at}
use Rattle.pg_dyn.specs.reading.Content.{same_wire, packed_leaves, leaves_in, last_item, plain_content}
use Rattle.pg_dyn.specs.fitting.Belonging.{MayBeZero}
use Rattle.pg_dyn.proofs.Lists.{all_some-map_map, flat_map-map, each-map, each_weaker}

pub same_wire_self : (wire : WireType) → same_wire wire wire ≡ true
same_wire_self wire = grind arith

-- a body of a packed list's element: not of LEN
abbrev pub Packed : WireType → List ℕ → Type 0
Packed Varint bytes = IsVarint bytes
Packed I64 bytes = length bytes ≡ 8
Packed I32 bytes = length bytes ≡ 4
Packed Len bytes = ⊥

element_at-append : (wire : WireType) (bytes rest : List ℕ) → Packed wire bytes → element_at wire (bytes ++ rest) ≡ Ok (bytes, rest)
element_at-append wire bytes rest h = grind (arith, varint_at-append, exactly-append)

length-Packed : (wire : WireType) (bytes : List ℕ) → Packed wire bytes → 1 ≤ length bytes
length-Packed wire bytes h = grind (arith, length-IsVarint)

pub packable_wire : (e : Element) → is_packable e ≡ true → same_wire Len (form_wire (form e)) ≡ false
packable_wire e h = grind arith

packed_shape : (wire : WireType) (bytes : List ℕ) → same_wire Len wire ≡ false → HasShape wire bytes → Packed wire bytes
packed_shape wire bytes h shape = grind arith

module _ {A : Type 0} (e : Element) (bytes : A → List ℕ) (item : A → Leaf) where
  -- bodies joined are the items of a packed list
  pub packed_read : is_packable e ≡ true → (xs : List A) → AllByRecursion (λ x. IsReadAs (form e) (bytes x) (item x)) xs → packed_leaves (form e) (flat_map bytes xs) ≡ Some (map item xs)
  packed_read packable xs h =
      let shape : AllByRecursion (Packed (form_wire (form e))) (map bytes xs) =
      each-map (Packed (form_wire (form e))) bytes xs
      (each_weaker (λ x. IsReadAs (form e) (bytes x) (item x)) (λ x. Packed (form_wire (form e)) (bytes x))
      (λ x r. packed_shape (form_wire (form e)) (bytes x) (packable_wire e packable) r.shape) xs h) in
      let bodies : row (element_at (form_wire (form e))) (flat_map (λ b. b) (map bytes xs)) ≡ Ok (map bytes xs) =
      row-joined (element_at (form_wire (form e))) (λ b. b) (Packed (form_wire (form e))) (element_at-append (form_wire (form e))) (length-Packed (form_wire (form e))) _ shape in
      rw (← flat_map-map (λ b. b) bytes xs, bodies)
      (all_some-map_map (leaf_in (form e)) bytes item xs (each_weaker (λ x. IsReadAs (form e) (bytes x) (item x)) (λ x. leaf_in (form e) (bytes x) ≡ Some (item x)) (λ x r. r.read) xs h))

  -- the item of one record
  pub leaves_in_read : (f : FieldShape) → f.element ≡ e → (x : A) → IsReadAs (form e) (bytes x) (item x) → leaves_in f (record_with f.number e (bytes x)) ≡ Some (item x ∷ [])
  unfolding written
  leaves_in_read f same x r = rw (same, same_wire_self (form_wire (form e)), r.read)

  -- the items of records of one each
  pub singles_read : (f : FieldShape) → f.element ≡ e → (xs : List A) → AllByRecursion (λ x. IsReadAs (form e) (bytes x) (item x)) xs → all_some (map (leaves_in f) (map (λ x. record_with f.number e (bytes x)) xs)) ≡ Some (map (λ x. item x ∷ []) xs)
  singles_read f same xs h =
      all_some-map_map (leaves_in f) (λ x. record_with f.number e (bytes x)) (λ x. item x ∷ []) xs
      (each_weaker (λ x. IsReadAs (form e) (bytes x) (item x)) (λ x. leaves_in f (record_with f.number e (bytes x)) ≡ Some (item x ∷ [])) (leaves_in_read f same) xs h)

-- one item is the content of a singular field
pub last_item_one : (p : Presence) (e : Element) (leaf : Leaf) → MayBeZero p leaf → IsNestedLeaf e leaf → last_item p e (leaf ∷ []) ≡ leaf ∷ []
last_item_one p e leaf h nested = grind (arith, append-nil)

pub last_item_none : (p : Presence) (e : Element) → last_item p e [] ≡ []
last_item_none p e = grind arith

-- the content of a singular field with one item
pub plain_content_one : (f : FieldShape) (bytes : List ℕ) (leaf : Leaf) → is_repeated f.presence ≡ false → IsReadAs (form f.element) bytes leaf → MayBeZero f.presence leaf → IsNestedLeaf f.element leaf → plain_content f (record_with f.number f.element bytes ∷ []) ≡ Some (leaf ∷ [])
plain_content_one f bytes leaf single reads may nested =
    rw (leaves_in_read f.element (λ (l : Leaf). bytes) (λ (l : Leaf). l) f refl leaf reads, single) (ap Some (last_item_one f.presence f.element leaf may nested))
