-- Records in another order are read as the same parts.
use Rattle.std.proofs.Common.{◌≡◌, ℕ, ◌≤◌, ◌⊎◌, inl, inr, ⊎_elim, List, [], ◌∷◌, map, filter, length, Bool, true, false, not, ◌&&◌, ◌||◌, Option, Some, None, option_and_then, refl, ap, sym, subst, ◌∙◌}
use Rattle.std.specs.Prelude.{IsPermutation}
use Rattle.std.specs.List.{AllByRecursion, list_all, list_any}
use Rattle.pg_schema.specs.declared.parts.field.Scalar.{Scalar}
use Rattle.pg_schema.specs.declared.parts.field.Element.{Element}
use Rattle.pg_schema.specs.declared.parts.field.Presence.{Presence}
use Rattle.pg_schema.specs.declared.parts.field.Presence.TheVariants as presences
use Rattle.pg_schema.specs.rules.Fields.{is_key}
use Rattle.pg_schema.specs.Shape.{FieldShape, field_at}
use Rattle.pg_schema.specs.ShapeRules.{Rising}
use Rattle.pg_wire.specs.Records.{WireRecord}
use Rattle.pg_dyn.specs.reading.Optional.{all_some, after_last_of, joined}
use Rattle.pg_dyn.specs.message.Message.{Leaf, Item, Message, Part, parts, message_from}
use Rattle.pg_dyn.specs.reading.Content.{takes, is_unknown, is_sibling, counted, content}
use Rattle.pg_dyn.specs.reading.Decoding.{Reader, is_readable, all_readable, read_part, field_parts, read_records}
use Rattle.pg_dyn.specs.laws.Laws.{of_number}
use Rattle.pg_dyn.proofs.Lists.{after_last_of_none, each_of_all, each_swap, each_weaker, filter-after_last_of_none, filter-filter_weaker, filtered_out, list_all_each, list_all_true, list_any_none, map_same}
use Rattle.pg_dyn.proofs.lemmas.message.KeyLaws.{each_moved}
use Rattle.pg_dyn.proofs.lemmas.reading.Fields.{field_of}
use Rattle.pg_dyn.proofs.lemmas.reading.records.ReadSplits.{parts-message_from, reading_of}
use Rattle.pg_dyn.proofs.lemmas.reading.records.Splitting.{each_found, takes_number}
use Rattle.pg_order.specs.MayWrite.{IsReordered, is_map_at}
use Rattle.pg_order.proofs.lemmas.Moved.{none_moved}
use Rattle.pg_order.proofs.lemmas.KeyKinds.{map_content_moved}

-- of two members of a oneof one takes none of the records
abbrev pub NoneMeetIn : List FieldShape → List WireRecord → Type 0
NoneMeetIn gs rs =
    (g h : FieldShape) → field_at gs g.number ≡ Some g → field_at gs h.number ≡ Some h → is_sibling g h ≡ true → (filter (takes g) rs ≡ []) ⊎ (filter (takes h) rs ≡ [])

-- a map of which no entry was written over
pub record IsWholeMap (g : FieldShape) (rs : List WireRecord) : Type 0 where
  pub key : Scalar
  pub is_map : g.presence ≡ presences.Map key
  pub is_key : is_key key ≡ true
  pub parts : List (Part Leaf)
  pub content_is : content g rs ≡ Some parts
  pub all_there : length rs ≤ length parts

-- what is a map in one type is a map in the other, or takes nothing
abbrev pub MapsAreWhole : List FieldShape → List FieldShape → List WireRecord → Type 0
MapsAreWhole fs gs rs =
    (g : FieldShape) → field_at gs g.number ≡ Some g → is_map_at fs g.number ≡ true → (filter (takes g) rs ≡ []) ⊎ IsWholeMap g (filter (takes g) rs)

whole_map_moved : (n : ℕ) (p : Presence) (e : Element) (oneof : Option ℕ) (test : WireRecord → Bool) (xs ys : List WireRecord) → IsPermutation xs ys → IsWholeMap (field_of n p e oneof) (filter test xs)
    → content (field_of n p e oneof) (filter test ys) ≡ content (field_of n p e oneof) (filter test xs)
whole_map_moved n presences.Implicit e oneof test xs ys moved whole = absurd (let is = whole.is_map in cc)
whole_map_moved n presences.Explicit e oneof test xs ys moved whole = absurd (let is = whole.is_map in cc)
whole_map_moved n (presences.Repeated packed) e oneof test xs ys moved whole = absurd (let is = whole.is_map in cc)
whole_map_moved n (presences.Map key) e oneof test xs ys moved whole =
    let is = whole.is_map in
    let same : whole.key ≡ key = cc in
    map_content_moved n key e oneof (subst (λ k. is_key k ≡ true) same whole.is_key) test xs ys moved whole.parts whole.content_is whole.all_there ∙ sym whole.content_is

-- where no two members meet, all accepted records count
pub counted_all : (gs : List FieldShape) (rs : List WireRecord) → Rising gs → NoneMeetIn gs rs → (g : FieldShape) → field_at gs g.number ≡ Some g → counted gs g rs ≡ filter (takes g) rs
counted_all gs rs rising apart g found = of (filter (takes g) rs) refl
  where
    test : WireRecord → Bool
    test r = list_any (λ h. is_sibling g h && takes h r) gs

    some_none : (q : WireRecord) (qs : List WireRecord) → filter (takes g) rs ≡ q ∷ qs → filter (takes g) rs ≡ [] → ⊥
    some_none q qs some none = let k = sym none ∙ some in cc

    siblings_none : (filter (takes g) rs ≡ [] → ⊥) → (h : FieldShape) → field_at gs h.number ≡ Some h → AllByRecursion (λ r. (is_sibling g h && takes h r) ≡ false) rs
    siblings_none some h at =
        elim (is_sibling g h) as (λ b. is_sibling g h ≡ b → AllByRecursion (λ r. (b && takes h r) ≡ false) rs) [
          | true ↦ λ sibling. filtered_out (takes h) rs (⊎_elim (λ none. absurd (some none)) (λ none. none) (apart g h found at sibling))
          | false ↦ λ sibling. each_of_all (λ r. false ≡ false) (λ r. refl) rs
        ] refl

    of : (qs : List WireRecord) → filter (takes g) rs ≡ qs → filter (takes g) (after_last_of test rs) ≡ filter (takes g) rs
    of [] none = filter-after_last_of_none (takes g) test rs (filtered_out (takes g) rs none) ∙ sym none
    of (q ∷ qs) some =
        let each_pair : AllByRecursion (λ h. AllByRecursion (λ r. (is_sibling g h && takes h r) ≡ false) rs) gs =
        each_weaker (λ h. field_at gs h.number ≡ Some h) (λ h. AllByRecursion (λ r. (is_sibling g h && takes h r) ≡ false) rs)
        (siblings_none (some_none q qs some)) gs (each_found gs rising) in
        let each_record = each_swap (λ h r. (is_sibling g h && takes h r) ≡ false) gs rs each_pair in
        ap (filter (takes g))
        (after_last_of_none test rs
        (list_any_none test rs
        (each_weaker (λ r. AllByRecursion (λ h. (is_sibling g h && takes h r) ≡ false) gs) (λ r. test r ≡ false) (λ r k. list_any_none (λ h. is_sibling g h && takes h r) gs k) rs each_record)))

module _ (child : Reader) (fs gs : List FieldShape) (old new : List WireRecord) (rising : Rising gs) (reordered : IsReordered fs old new) (apart : NoneMeetIn gs old) (maps : MapsAreWhole fs gs old) where
  apart_moved : NoneMeetIn gs new
  apart_moved g h at_g at_h sibling =
      ⊎_elim (λ none. inl (none_moved (takes g) old new reordered.same none)) (λ none. inr (none_moved (takes h) old new reordered.same none)) (apart g h at_g at_h sibling)

  own_number : (g : FieldShape) (rs : List WireRecord) → filter (takes g) (filter (of_number g.number) rs) ≡ filter (takes g) rs
  own_number g rs = filter-filter_weaker (of_number g.number) (takes g) (takes_number g) rs

  taken_moved : (g : FieldShape) → field_at gs g.number ≡ Some g → content g (filter (takes g) new) ≡ content g (filter (takes g) old)
  taken_moved g found = of (is_map_at fs g.number) refl
    where
      of : (b : Bool) → is_map_at fs g.number ≡ b → content g (filter (takes g) new) ≡ content g (filter (takes g) old)
      of false is =
          ap (content g) (sym (own_number g new) ∙ ap (filter (takes g)) (reordered.in_order g.number is) ∙ own_number g old)
      of true is =
          ⊎_elim (λ none. ap (content g) (none_moved (takes g) old new reordered.same none ∙ sym none))
          (λ whole. whole_map_moved g.number g.presence g.element g.oneof (takes g) old new reordered.same whole) (maps g found is)

  field_moved : (g : FieldShape) → field_at gs g.number ≡ Some g → field_parts child gs new g ≡ field_parts child gs old g
  field_moved g found =
      ap (option_and_then (λ ps. all_some (map (read_part child g.element) ps)))
      (ap (content g) (counted_all gs new rising apart_moved g found) ∙ taken_moved g found ∙ ap (content g) (sym (counted_all gs old rising apart g found)))

  readable_moved : all_readable child gs old ≡ true → all_readable child gs new ≡ true
  readable_moved h =
      let test = λ (r : WireRecord). list_all (λ f. not (takes f r) || is_readable child f r) gs in
      list_all_each test new (each_moved (λ r. test r ≡ true) old new reordered.same (list_all_true test old h))

  -- What is read of the records is read of them in the other order, but for the unknown ones' order.
  pub reordered_read : (m : Message) → read_records child gs old ≡ Some m → read_records child gs new ≡ Some (message_from (parts m) (filter (is_unknown gs) new))
  reordered_read m h = of (all_some (map (field_parts child gs old) gs)) refl
    where
      readable : all_readable child gs old ≡ true
      readable = (reading_of child gs old m h).readable

      same : map (field_parts child gs new) gs ≡ map (field_parts child gs old) gs
      same = map_same (field_parts child gs new) (field_parts child gs old) gs (each_weaker (λ g. field_at gs g.number ≡ Some g) (λ g. field_parts child gs new g ≡ field_parts child gs old g) field_moved gs (each_found gs rising))

      of : (o : Option (List (List (Part Item)))) → all_some (map (field_parts child gs old) gs) ≡ o → read_records child gs new ≡ Some (message_from (parts m) (filter (is_unknown gs) new))
      of None is = absurd (let k : ◌≡◌ {A = Option Message} None (Some m) = rw (readable, is) at h in cc)
      of (Some pieces) is =
          let k : ◌≡◌ {A = Option Message} (Some (message_from (joined pieces) (filter (is_unknown gs) old))) (Some m) = rw (readable, is) at h in
          let made : message_from (joined pieces) (filter (is_unknown gs) old) ≡ m = cc in
          let parts_are : parts m ≡ joined pieces = ap parts (sym made) ∙ (parts-message_from (joined pieces) (filter (is_unknown gs) old)).0 in
          rw (readable_moved readable, same, is) (ap (λ ps. Some (message_from ps (filter (is_unknown gs) new))) (sym parts_are))
