-- Of a message that has an encoding, each message inside has one, and so has the part that another type lacks.
use Rattle.std.proofs.Common.{◌≡◌, ℕ, ◌≤◌, Bor, ◌+◌, ◌<◌, List, [], ◌∷◌, map, filter, flat_map, length, Bool, true, false, cond, is_none, Option, Some, None, IfSome, MatchOption, ap, ◌∙◌, subst, arith, length-append}
use Rattle.std.specs.Bool.{⊤}
use Rattle.std.specs.List.{AllByRecursion}
use Rattle.std.specs.Option.{option_copied}
use Rattle.pg_schema.specs.declared.parts.field.TypeId.{TypeId}
use Rattle.pg_wire.specs.Records.{WireRecord}
use Rattle.pg_schema.specs.Shape.{Shape, FieldShape, fields, field_at}
use Rattle.pg_schema.specs.ShapeRules.{IsShape}
use Rattle.pg_dyn.specs.declared.message_ref.ContentRef.{ContentRef}
use Rattle.pg_dyn.specs.declared.message_ref.ContentRef.TheVariants as contents
use Rattle.pg_dyn.specs.declared.message_ref.EntryRef.{EntryRef}
use Rattle.pg_dyn.specs.declared.message_ref.ValueRef.{ValueRef}
use Rattle.pg_dyn.specs.declared.message_ref.ValueRef.TheVariants as values
use Rattle.pg_dyn.specs.message.Message.{Part, Message, is_of}
use Rattle.pg_dyn.specs.message.Message as model
use Rattle.pg_dyn.specs.message.Kept.{Kept, ends, holds, nests, type_of, message_of}
use Rattle.pg_dyn.specs.message.KeptParts.{KeptItem, Plain, Msg, parts_of, of_number}
use Rattle.pg_dyn.specs.message_ref.Borrowed.{item_part, entry_part, item_seen, content_seen}
use Rattle.pg_dyn.specs.word.NumberLists.{numbers_in}
use Rattle.pg_dyn.specs.encoding.Writing.{records_in, bytes_of, field_records}
use Rattle.pg_dyn.specs.encoding.Encoding.{cap, enc, encoded_parts}
use Rattle.pg_dyn.specs.fitting.Fits.{Fits, PartsAgree}
use Rattle.pg_dyn.specs.views.Comparison.{unshared_bytes}
use Rattle.pg_dyn.specs.laws.OwnParts.{ChildrenShorter}
use Rattle.pg_dyn.proofs.Lists.{each_filtered, flat_map-append'}
use Rattle.pg_dyn.proofs.PublicLaws.{children_are_shorter}
use Rattle.pg_pairs.specs.inner.Comparing.{Keyed, keyed, HasEncoding, ItemHasEncoding}
use Rattle.pg_pairs.proofs.lemmas.witness.SameSteps.{of_number_seen, seen_if}

module _ (shape : Shape) where
  abbrev PartHasEncoding : KeptItem → Type 0
  PartHasEncoding (Plain listed leaf) = ⊤
  PartHasEncoding (Msg listed m) = HasEncoding shape m

  parts_encoded : (m : Kept) (n : ℕ) → n ≤ cap → PartsAgree shape m → ChildrenShorter shape (type_of m) n (message_of m) → AllByRecursion (λ (p : Part KeptItem). PartHasEncoding p.item) (parts_of m)
  parts_encoded (ends type unknown) n within agree shorter = tt
  parts_encoded (holds number key listed leaf later) n within agree shorter = (tt, parts_encoded later n within agree.2 shorter)
  parts_encoded (nests number key listed child later) n within agree shorter =
      let less = subst (λ t. length (enc shape t (message_of child)) < n) agree.1 shorter.0 in
      (omega (arith, less, within), parts_encoded later n within agree.3 shorter.1)

  each_encoded : IsShape shape → (m : Kept) → Fits shape m → HasEncoding shape m → AllByRecursion (λ (p : Part KeptItem). PartHasEncoding p.item) (parts_of m)
  each_encoded is_shape m fits short =
      parts_encoded m (length (enc shape (type_of m) (message_of m))) short fits.parts_agree (children_are_shorter shape (type_of m) (message_of m) is_shape fits.is_message short)

  value_encoded : (listed : Bool) (value : ValueRef) → PartHasEncoding (item_seen listed value) → ItemHasEncoding shape value
  value_encoded listed (values.Int n) h = tt
  value_encoded listed (values.F32 bits) h = tt
  value_encoded listed (values.F64 bits) h = tt
  value_encoded listed (values.Text text) h = tt
  value_encoded listed (values.Bytes bytes) h = tt
  value_encoded listed (values.Msg child) h = h

  items_encoded : (number : ℕ) (xs : List ValueRef) → AllByRecursion (λ (p : Part KeptItem). PartHasEncoding p.item) (map (item_part number true) xs) → AllByRecursion (λ (x : Keyed). ItemHasEncoding shape x.1) (map {B = Keyed} (λ value. (None, value)) xs)
  items_encoded number [] h = tt
  items_encoded number (x ∷ xs) h = (value_encoded true x h.0, items_encoded number xs h.1)

  keyed_encoded : (number : ℕ) (content : ContentRef) → AllByRecursion (λ (p : Part KeptItem). PartHasEncoding p.item) (content_seen number content) → AllByRecursion (λ (x : Keyed). ItemHasEncoding shape x.1) (keyed content)
  keyed_encoded number (contents.One value) h = (value_encoded false value h.0, tt)
  keyed_encoded number (contents.Many vs) h = items_encoded number vs.items h
  keyed_encoded number (contents.Numbers ns) h = items_encoded number (numbers_in ns) h
  keyed_encoded number (contents.Map es) h = go es.items h
    where
      go : (xs : List EntryRef) → AllByRecursion (λ (p : Part KeptItem). PartHasEncoding p.item) (map (entry_part number) xs) → AllByRecursion (λ (x : Keyed). ItemHasEncoding shape x.1) (map {B = Keyed} (λ (e : EntryRef). (Some e.key, e.value)) xs)
      go [] h = tt
      go (x ∷ xs) h = (value_encoded false x.value h.0, go xs h.1)

  pub shown_encoded : IsShape shape → (m : Kept) → Fits shape m → HasEncoding shape m → (number : ℕ) (o s : Option (Bor ContentRef)) (c : Bor ContentRef) → MatchOption o (of_number number m ≡ []) (λ c. of_number number m ≡ content_seen number c.now) → IfSome s (λ c. option_copied o ≡ Some c.now) → s ≡ Some c → AllByRecursion (λ (x : Keyed). ItemHasEncoding shape x.1) (keyed c.now)
  shown_encoded is_shape m fits short number o s c found same is =
      let from : option_copied o ≡ Some c.now = subst (λ (x : Option (Bor ContentRef)). IfSome x (λ y. option_copied o ≡ Some y.now)) is same in
      keyed_encoded number c.now
      (subst (AllByRecursion (λ (p : Part KeptItem). PartHasEncoding p.item)) (of_number_seen number m o found ∙ ap (seen_if number) from)
      (each_filtered (λ (p : Part KeptItem). PartHasEncoding p.item) (is_of number) (parts_of m) (each_encoded is_shape m fits short)))

  -- a child's encoding
  pub child_encoded : (value : ValueRef) (m : Kept) → item_seen false value ≡ Msg false m → ItemHasEncoding shape value → HasEncoding shape m
  child_encoded (values.Int n) m is h = absurd (cc)
  child_encoded (values.F32 n) m is h = absurd (cc)
  child_encoded (values.F64 n) m is h = absurd (cc)
  child_encoded (values.Text n) m is h = absurd (cc)
  child_encoded (values.Bytes n) m is h = absurd (cc)
  child_encoded (values.Msg child) m is h = let same : child.value ≡ m = cc in subst (HasEncoding shape) same h

-- What another type lacks is a part of the encoding.

some_within : (recs : FieldShape → List WireRecord) (test : FieldShape → Bool) (fs : List FieldShape) → length (bytes_of (flat_map recs (filter test fs))) ≤ length (bytes_of (flat_map recs fs))
some_within recs test [] = omega arith
some_within recs test (f ∷ fs) =
    let rest = some_within recs test fs in
    let all = bytes_joined fs in
    elim (test f) as (λ b. length (bytes_of (flat_map recs (cond b (f ∷ filter test fs) (filter test fs)))) ≤ length (bytes_of (flat_map recs (f ∷ fs)))) [
      | true ↦ let kept = bytes_joined (filter test fs) in omega (arith, rest, all, kept)
      | false ↦ omega (arith, rest, all)
    ]
  where
    bytes_joined : (gs : List FieldShape) → length (bytes_of (flat_map recs (f ∷ gs))) ≡ length (bytes_of (recs f)) + length (bytes_of (flat_map recs gs))
    bytes_joined gs = ap length (flat_map-append' (λ (r : WireRecord). r.bytes) (recs f) (flat_map recs gs)) ∙ length-append (bytes_of (recs f)) (bytes_of (flat_map recs gs))

pub unshared_within : (shape : Shape) (type : TypeId) (gs : List FieldShape) (m : Message) → length (unshared_bytes shape type gs m) ≤ length (enc shape type m)
unfolding enc
unshared_within shape type gs m =
    let part = some_within (λ f. field_records f (filter (is_of f.number) (encoded_parts shape type m))) (λ f. is_none (field_at gs f.number)) (fields shape type) in
    let all = length-append (bytes_of (records_in (fields shape type) (encoded_parts shape type m))) (bytes_of (model.unknown_of m)) in
    omega (arith, part, all)
