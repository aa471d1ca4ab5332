-- A content put among those of a message.
use Rattle.std.proofs.Common.{◌≡◌, ℕ, List, [], ◌∷◌, length, map, filter, nat_eq, Bool, true, false, true≢false, not, Option, Some, inl, inr, refl, ap, sym, subst, ◌∙◌, arith, eqb-true, rules}
use Rattle.std.specs.List.{AllByRecursion}
use Rattle.pg_schema.specs.declared.parts.field.Scalar.{Scalar}
use Rattle.pg_schema.specs.declared.parts.field.Scalar.TheVariants as scalars
use Rattle.pg_schema.specs.declared.parts.field.TypeId.{TypeId}
use Rattle.pg_schema.specs.declared.parts.field.Element.{Element}
use Rattle.pg_schema.specs.declared.parts.field.Presence.{Presence}
use Rattle.pg_schema.specs.declared.parts.Parts.{Parts}
use Rattle.pg_schema.specs.Invariant.{IsSchema}
use Rattle.pg_schema.specs.Parts.{shape_of}
use Rattle.pg_schema.specs.Shape.{Shape, FieldShape, fields, field_at}
use Rattle.pg_schema.specs.ShapeRules.{IsField, PresenceFits}
use Rattle.pg_schema.specs.rules.Fields.{is_key}
use Rattle.pg_wire.specs.Records.{WireRecord}
use Rattle.pg_dyn.specs.declared.message.Content.{Content}
use Rattle.pg_dyn.specs.declared.message.Value.{Value}
use Rattle.pg_dyn.specs.word.Coding.{Whole, Integer, scalar_form}
use Rattle.pg_dyn.specs.reading.Content.{is_sibling}
use Rattle.pg_dyn.specs.fitting.ContentFits.{ContentFits, HoldsContent, AreApart, NoneSiblings, FitsByContents, EntryFits, ItemsFit}
use Rattle.pg_dyn.specs.message.FieldList.{put_field, remove_field}
use Rattle.pg_dyn.specs.fitting.Fits.{Fits}
use Rattle.pg_dyn.specs.message.Kept.{Kept, type_of}
use Rattle.pg_dyn.specs.message.KeptParts.{KeptItem, parts_of, unknown_of}
use Rattle.pg_dyn.specs.message.KeyOrder.{AreAlike, IsNumber, IsText, KeysAlike}
use Rattle.pg_dyn.specs.message.Message.{Part}
use Rattle.pg_dyn.specs.message.Replacing.{with_parts, is_sibling_number, without_siblings}
use Rattle.pg_dyn.specs.fitting.ScalarItems.{IsItemOf}
use Rattle.pg_dyn.specs.message.Seen.{content_seen, Rises, IsFilled, HasKeys}
use Rattle.pg_dyn.specs.setting.Setting.{normalized, normalized_by}
use Rattle.pg_dyn.specs.fitting.Texts.{kept_in}
use Rattle.pg_dyn.specs.inner.Reported.{is_nothing, MayHoldKeys}
use Rattle.pg_dyn.proofs.lemmas.reading.TypeFields.{is_type, rising}
use Rattle.pg_dyn.proofs.lemmas.message.FieldListLaws.{rises-filter, rises_put, rises_remove, each_put, each_removed}
use Rattle.pg_dyn.proofs.lemmas.fitting.FitsByContents.{fits_from_contents, contents_from_fits}
use Rattle.pg_dyn.proofs.lemmas.fitting.PartsToFits.{own_sibling}
use Rattle.pg_dyn.proofs.lemmas.fitting.FitsChecks.{same_field}
use Rattle.pg_dyn.proofs.lemmas.laws.Flat.{is_sibling_sym}
use Rattle.pg_dyn.proofs.Lists.{filter_all, filter-append', filter_swap, each_weaker, each_both, each_at}
use Rattle.pg_dyn.proofs.lemmas.message.ReplacingLaws.{shown, content_number, parts_of-kept_onto, unknown_of-kept_onto, type_of-kept_onto}
use Rattle.pg_dyn.proofs.lemmas.setting.NormalizedLaws.{zero_seen}
use Rattle.pg_dyn.proofs.lemmas.setting.NormalizedParts.{normalized_each}
use Rattle.pg_dyn.proofs.lemmas.setting.WithoutSiblings.{sibling_found, cleared_shown, each_left}
use Rattle.std.proofs.lemmas.List.{append-nil}
use Rattle.std.proofs.lemmas.Bool.{not-true}

-- The keys of a map are alike.

number_of : (w : Whole) (s : Scalar) → scalar_form s ≡ Integer w → (v : Value) → IsItemOf s v → IsNumber v
number_of w s is v h = grind arith

text_of : (v : Value) → IsItemOf scalars.String v → IsText v
text_of v h = grind arith

module _ (shape : Shape) (e : Element) (es : List (Value × Value)) where
  numbers : (w : Whole) (s : Scalar) → scalar_form s ≡ Integer w → AllByRecursion (EntryFits shape s e) es → AreAlike es
  numbers w s is h = inl (each_weaker (EntryFits shape s e) (λ (x : Value × Value). IsNumber x.0) (λ x k. number_of w s is x.0 k.0) es h)

  pub keys_alike : (s : Scalar) → is_key s ≡ true → AllByRecursion (EntryFits shape s e) es → AreAlike es
  keys_alike scalars.Double key h = absurd (cc)
  keys_alike scalars.Float key h = absurd (cc)
  keys_alike scalars.Bytes key h = absurd (cc)
  keys_alike scalars.String key h = inr (each_weaker (EntryFits shape scalars.String e) (λ (x : Value × Value). IsText x.0) (λ x k. text_of x.0 k.0) es h)
  keys_alike scalars.Int32 key h = numbers _ scalars.Int32 refl h
  keys_alike scalars.Int64 key h = numbers _ scalars.Int64 refl h
  keys_alike scalars.Uint32 key h = numbers _ scalars.Uint32 refl h
  keys_alike scalars.Uint64 key h = numbers _ scalars.Uint64 refl h
  keys_alike scalars.Sint32 key h = numbers _ scalars.Sint32 refl h
  keys_alike scalars.Sint64 key h = numbers _ scalars.Sint64 refl h
  keys_alike scalars.Fixed32 key h = numbers _ scalars.Fixed32 refl h
  keys_alike scalars.Fixed64 key h = numbers _ scalars.Fixed64 refl h
  keys_alike scalars.Sfixed32 key h = numbers _ scalars.Sfixed32 refl h
  keys_alike scalars.Sfixed64 key h = numbers _ scalars.Sfixed64 refl h
  keys_alike scalars.Bool key h = numbers _ scalars.Bool refl h

pub alike_by : (shape : Shape) (p : Presence) (e : Element) (o : Option ℕ) (c : Content) → PresenceFits p e o → ItemsFit shape p e c → KeysAlike c
alike_by shape p e o c fits h = grind (arith, keys_alike)

pub content_alike : (parts : Parts) → IsSchema parts → (type : TypeId) (n : ℕ) (f : FieldShape) (c : Content) → field_at (fields (shape_of parts) type) n ≡ Some f → ItemsFit (shape_of parts) f.presence f.element c → KeysAlike c
content_alike parts h type n f c found items =
    alike_by (shape_of parts) f.presence f.element f.oneof c (each_at (IsField (length (shape_of parts))) (fields (shape_of parts) type) n f found (is_type parts h type).each).presence_fits items

keyed_by : (p : Presence) (e : Element) (o : Option ℕ) → PresenceFits p e o → MayHoldKeys p
keyed_by p e o fits = grind arith

pub may_hold_keys : (parts : Parts) → IsSchema parts → (type : TypeId) (n : ℕ) (f : FieldShape) → field_at (fields (shape_of parts) type) n ≡ Some f → MayHoldKeys f.presence
may_hold_keys parts h type n f found =
    keyed_by f.presence f.element f.oneof (each_at (IsField (length (shape_of parts))) (fields (shape_of parts) type) n f found (is_type parts h type).each).presence_fits

-- What a field holds of a content.

no_items : (n : ℕ) → nat_eq n 0 ≡ true → n ≡ 0
no_items n h = eqb-true n 0 h

empty_list : {A : Type 0} (xs : List A) → nat_eq (length xs) 0 ≡ true → xs ≡ []
empty_list [] h = refl
empty_list (x ∷ xs) h = absurd (let none = no_items (length (x ∷ xs)) h in omega arith)

normalized_none : (p : Presence) → normalized_by p [] ≡ []
normalized_none p = grind arith

nothing_left : (p : Presence) (c : Content) (n : ℕ) → is_nothing p c ≡ true → normalized_by p (content_seen n c) ≡ []
nothing_left p c n h = grind (arith, zero_seen, empty_list, normalized_none)

pub nothing_normalized : (f : FieldShape) (c : Content) (n : ℕ) → is_nothing f.presence c ≡ true → normalized f (content_seen n c) ≡ []
nothing_normalized f c n h = ap (map (kept_in f.element)) (nothing_left f.presence c n h)

abbrev OfNumber : ℕ → List (Part KeptItem) → Type 0
OfNumber n ps = AllByRecursion (λ (p : Part KeptItem). p.number ≡ n) ps

kept_number : (e : Element) (n : ℕ) (ps : List (Part KeptItem)) → OfNumber n ps → OfNumber n (map (kept_in e) ps)
kept_number e n [] h = tt
kept_number e n (p ∷ ps) h = (h.0, kept_number e n ps h.1)

pub normalized_number : (f : FieldShape) (n : ℕ) (c : Content) → OfNumber n (normalized f (content_seen n c))
normalized_number f n c = search (rules, kept_number, normalized_each, content_number)

-- Without siblings before or after.

module _ (fs : List FieldShape) (f : FieldShape) (n : ℕ) (apart : is_sibling_number fs f n ≡ false) where
  abbrev stays : ℕ → Bool
  stays k = not (is_sibling_number fs f k)

  -- parts put in before the siblings go are put in after
  pub siblings_after : (ps : List (Part KeptItem)) (m : Kept) → OfNumber n ps → without_siblings fs f (with_parts n ps m) ≡ with_parts n ps (without_siblings fs f m)
  siblings_after ps m own =
      search (
        rules,
        type_of-kept_onto,
        parts_of-kept_onto,
        append-nil,
        unknown_of-kept_onto,
        filter_all,
        each_weaker,
        filter-append',
        filter_swap,
      )

  abbrev left_of : List (ℕ × Content) → List (ℕ × Content)
  left_of ms = filter (λ (c : ℕ × Content). not (is_sibling_number fs f c.0)) ms

  pub left-removed : (ms : List (ℕ × Content)) → left_of (remove_field n ms) ≡ remove_field n (left_of ms)
  left-removed ms = search (rules, filter-append', filter_swap)

  pub left-put : (c : Content) (ms : List (ℕ × Content)) → left_of (put_field n c ms) ≡ put_field n c (left_of ms)
  left-put c ms = search (rules, filter-append', filter_swap)

-- Contents that are no siblings of one another, either way round.

pub siblings_back : (f g : FieldShape) → is_sibling f g ≡ false → is_sibling g f ≡ false
siblings_back f g h = search (rules, true≢false, is_sibling_sym)

module _ (fs : List FieldShape) where
  abbrev Together : List (ℕ × Content) → Type 0
  Together ms = AllByRecursion (λ (x : ℕ × Content). AllByRecursion (λ (y : ℕ × Content). AreApart fs x.0 y.0) ms) ms

  apart_back : (a b : ℕ) → AreApart fs a b → AreApart fs b a
  apart_back a b h f g found there = siblings_back g f (h g f there found)

  apart_self : (a : ℕ) → AreApart fs a a
  apart_self a f g found there = subst (λ x. is_sibling f x ≡ false) (same_field f g (sym found ∙ there)) (own_sibling f)

  together : (ms : List (ℕ × Content)) → NoneSiblings fs ms → Together ms
  together [] h = tt
  together (m ∷ ms) h = (
    (apart_self m.0, h.0),
    each_weaker (λ (x : ℕ × Content). AreApart fs m.0 x.0 × AllByRecursion (λ (y : ℕ × Content). AreApart fs x.0 y.0) ms) (λ (x : ℕ × Content). AllByRecursion (λ (y : ℕ × Content). AreApart fs x.0 y.0) (m ∷ ms)) (λ x k. (apart_back m.0 x.0 k.0, k.1)) ms
        (each_both (λ (x : ℕ × Content). AreApart fs m.0 x.0) (λ (x : ℕ × Content). AllByRecursion (λ (y : ℕ × Content). AreApart fs x.0 y.0) ms) ms h.0 (together ms h.1)),
  )

  none_siblings : (ms : List (ℕ × Content)) → Together ms → NoneSiblings fs ms
  none_siblings [] h = tt
  none_siblings (m ∷ ms) h =
      (h.0.1, none_siblings ms (each_weaker (λ (x : ℕ × Content). AllByRecursion (λ (y : ℕ × Content). AreApart fs x.0 y.0) (m ∷ ms)) (λ (x : ℕ × Content). AllByRecursion (λ (y : ℕ × Content). AreApart fs x.0 y.0) ms) (λ x k. k.1) ms h.1))

  put_together : (n : ℕ) (c : Content) (ms : List (ℕ × Content)) → AllByRecursion (λ (x : ℕ × Content). AreApart fs n x.0) ms → Together ms → Together (put_field n c ms)
  put_together n c ms new h =
      each_put (λ (x : ℕ × Content). AllByRecursion (λ (y : ℕ × Content). AreApart fs x.0 y.0) (put_field n c ms)) n c ms
      (each_put (λ (y : ℕ × Content). AreApart fs n y.0) n c ms (apart_self n) new)
      (each_weaker (λ (x : ℕ × Content). AreApart fs n x.0 × AllByRecursion (λ (y : ℕ × Content). AreApart fs x.0 y.0) ms) (λ (x : ℕ × Content). AllByRecursion (λ (y : ℕ × Content). AreApart fs x.0 y.0) (put_field n c ms))
      (λ x k. each_put (λ (y : ℕ × Content). AreApart fs x.0 y.0) n c ms (apart_back n x.0 k.0) k.1) ms
      (each_both (λ (x : ℕ × Content). AreApart fs n x.0) (λ (x : ℕ × Content). AllByRecursion (λ (y : ℕ × Content). AreApart fs x.0 y.0) ms) ms new h))

  removed_together : (n : ℕ) (ms : List (ℕ × Content)) → Together ms → Together (remove_field n ms)
  removed_together n ms h = search (rules, each_removed, each_weaker)

passed : {A : Type 0} (test : A → Bool) (xs : List A) → AllByRecursion (λ x. test x ≡ true) (filter test xs)
passed test [] = tt
passed test (x ∷ xs) = search (rules, passed test xs)

-- A message that fits without a field's siblings still does with another content in the field.

module _ (parts : Parts) (h : IsSchema parts) (type : TypeId) (f : FieldShape) (n : ℕ) (found : field_at (fields (shape_of parts) type) n ≡ Some f) where
  pub no_self_sibling : is_sibling_number (fields (shape_of parts) type) f n ≡ false
  no_self_sibling = sibling_found (fields (shape_of parts) type) f f n (rising parts h type) found ∙ own_sibling f

  -- what is left is apart from the field
  left_apart : (ms : List (ℕ × Content)) → AllByRecursion (λ (x : ℕ × Content). AreApart (fields (shape_of parts) type) n x.0) (left_of (fields (shape_of parts) type) f n no_self_sibling ms)
  left_apart ms = of (left_of (fields (shape_of parts) type) f n no_self_sibling ms) (stay ms)
    where
      stay : (xs : List (ℕ × Content)) → AllByRecursion (λ (x : ℕ × Content). not (is_sibling_number (fields (shape_of parts) type) f x.0) ≡ true) (filter (λ (c : ℕ × Content). not (is_sibling_number (fields (shape_of parts) type) f c.0)) xs)
      stay xs = passed (λ (c : ℕ × Content). not (is_sibling_number (fields (shape_of parts) type) f c.0)) xs

      one : (x : ℕ × Content) → not (is_sibling_number (fields (shape_of parts) type) f x.0) ≡ true → AreApart (fields (shape_of parts) type) n x.0
      one x stays g j at there =
          let same : f ≡ g = same_field f g (sym found ∙ at) in
          subst (λ y. is_sibling y j ≡ false) same (sym (sibling_found (fields (shape_of parts) type) f j x.0 (rising parts h type) there) ∙ not-true (is_sibling_number (fields (shape_of parts) type) f x.0) stays)

      of : (xs : List (ℕ × Content)) → AllByRecursion (λ (x : ℕ × Content). not (is_sibling_number (fields (shape_of parts) type) f x.0) ≡ true) xs → AllByRecursion (λ (x : ℕ × Content). AreApart (fields (shape_of parts) type) n x.0) xs
      of xs k = each_weaker (λ (x : ℕ × Content). not (is_sibling_number (fields (shape_of parts) type) f x.0) ≡ true) (λ (x : ℕ × Content). AreApart (fields (shape_of parts) type) n x.0) one xs k

  module _ (ms : List (ℕ × Content)) (us : List WireRecord) (m : Kept) (view : shown type ms us ≡ m) (rises : Rises ms) (filled : AllByRecursion (λ (x : ℕ × Content). IsFilled x.1) ms) (keys : AllByRecursion (λ (x : ℕ × Content). HasKeys x.1) ms) where
    abbrev left : List (ℕ × Content)
    left = left_of (fields (shape_of parts) type) f n no_self_sibling ms

    by_contents : Fits (shape_of parts) (without_siblings (fields (shape_of parts) type) f m) → FitsByContents (shape_of parts) type left us
    by_contents fits =
        contents_from_fits (shape_of parts) type left us (without_siblings (fields (shape_of parts) type) f m) (cleared_shown (fields (shape_of parts) type) f type ms left us m refl view) h.shape
        (each_left (λ (x : ℕ × Content). IsFilled x.1) (fields (shape_of parts) type) f ms filled) (each_left (λ (x : ℕ × Content). HasKeys x.1) (fields (shape_of parts) type) f ms keys) fits

    left_rises : Rises left
    left_rises = rises-filter (λ (c : ℕ × Content). not (is_sibling_number (fields (shape_of parts) type) f c.0)) ms rises

    left_together : Together (fields (shape_of parts) type) ms → Together (fields (shape_of parts) type) left
    left_together k =
        each_left (λ (x : ℕ × Content). AllByRecursion (λ (y : ℕ × Content). AreApart (fields (shape_of parts) type) x.0 y.0) left) (fields (shape_of parts) type) f ms
        (each_weaker (λ (x : ℕ × Content). AllByRecursion (λ (y : ℕ × Content). AreApart (fields (shape_of parts) type) x.0 y.0) ms) (λ (x : ℕ × Content). AllByRecursion (λ (y : ℕ × Content). AreApart (fields (shape_of parts) type) x.0 y.0) left)
        (λ x row. each_left (λ (y : ℕ × Content). AreApart (fields (shape_of parts) type) x.0 y.0) (fields (shape_of parts) type) f ms row) ms k)

    -- a message that fits does without siblings
    pub cleared_fits : Fits (shape_of parts) m → Fits (shape_of parts) (without_siblings (fields (shape_of parts) type) f m)
    cleared_fits fits =
        let k = contents_from_fits (shape_of parts) type ms us m view h.shape filled keys fits in
        fits_from_contents (shape_of parts) type left us (without_siblings (fields (shape_of parts) type) f m) (cleared_shown (fields (shape_of parts) type) f type ms left us m refl view) left_rises
        (record {
          type_is_there = k.type_is_there;
          each = each_left (HoldsContent (shape_of parts) type) (fields (shape_of parts) type) f ms k.each;
          apart = none_siblings (fields (shape_of parts) type) left (left_together (together (fields (shape_of parts) type) ms k.apart));
          unknown = k.unknown;
        })

    pub put_fits : (c : Content) (new : Kept) (ns : List (ℕ × Content)) → ContentFits (shape_of parts) f.presence f.element c → ns ≡ put_field n c ms → shown type ns us ≡ new
        → Fits (shape_of parts) (without_siblings (fields (shape_of parts) type) f m) → Fits (shape_of parts) (without_siblings (fields (shape_of parts) type) f new)
    put_fits c new ns fits_c is new_view fits =
        let k = by_contents fits in
        let left_is : filter (λ (x : ℕ × Content). not (is_sibling_number (fields (shape_of parts) type) f x.0)) ns ≡ put_field n c left = ap (filter (λ (x : ℕ × Content). not (is_sibling_number (fields (shape_of parts) type) f x.0))) is ∙ left-put (fields (shape_of parts) type) f n no_self_sibling c ms in
        fits_from_contents (shape_of parts) type (put_field n c left) us (without_siblings (fields (shape_of parts) type) f new) (cleared_shown (fields (shape_of parts) type) f type ns (put_field n c left) us new (sym left_is) new_view) (rises_put n c left left_rises)
        (record {
          type_is_there = k.type_is_there;
          each = each_put (HoldsContent (shape_of parts) type) n c left (record { field = f; found = found; fits = fits_c }) k.each;
          apart = none_siblings (fields (shape_of parts) type) (put_field n c left) (put_together (fields (shape_of parts) type) n c left (left_apart ms) (together (fields (shape_of parts) type) left k.apart));
          unknown = k.unknown;
        })

    pub removed_fits : (new : Kept) (ns : List (ℕ × Content)) → ns ≡ remove_field n ms → shown type ns us ≡ new → Fits (shape_of parts) (without_siblings (fields (shape_of parts) type) f m) → Fits (shape_of parts) (without_siblings (fields (shape_of parts) type) f new)
    removed_fits new ns is new_view fits =
        let k = by_contents fits in
        let left_is : filter (λ (x : ℕ × Content). not (is_sibling_number (fields (shape_of parts) type) f x.0)) ns ≡ remove_field n left = ap (filter (λ (x : ℕ × Content). not (is_sibling_number (fields (shape_of parts) type) f x.0))) is ∙ left-removed (fields (shape_of parts) type) f n no_self_sibling ms in
        fits_from_contents (shape_of parts) type (remove_field n left) us (without_siblings (fields (shape_of parts) type) f new) (cleared_shown (fields (shape_of parts) type) f type ns (remove_field n left) us new (sym left_is) new_view)
        (rises_remove n left left_rises)
        (record {
          type_is_there = k.type_is_there;
          each = each_removed (HoldsContent (shape_of parts) type) n left k.each;
          apart = none_siblings (fields (shape_of parts) type) (remove_field n left) (removed_together (fields (shape_of parts) type) n left (together (fields (shape_of parts) type) left k.apart));
          unknown = k.unknown;
        })
