-- A message fits where each of its contents does, no two are members of one oneof, and its unknown records are unknown.
use Rattle.std.proofs.Common.{Vec, Global, ◌≡◌, ◌≢◌, ℕ, ◌<◌, List, [], ◌∷◌, length, map, Bool, true, false, Option, Some, None, refl, ap, sym, subst, rules, arith}
use Rattle.std.specs.List.{AllByRecursion}
use Rattle.std.specs.declared.cmp.Ordering.TheVariants.{Less}
use Rattle.pg_schema.specs.declared.parts.field.Scalar.{Scalar}
use Rattle.pg_schema.specs.declared.parts.field.TypeId.{TypeId}
use Rattle.pg_schema.specs.declared.parts.field.Element.{Element}
use Rattle.pg_schema.specs.declared.parts.field.Presence.{Presence}
use Rattle.pg_schema.specs.declared.parts.field.Presence.TheVariants as presences
use Rattle.pg_schema.specs.Shape.{Shape, FieldShape, is_repeated}
use Rattle.pg_schema.specs.ShapeRules.{IsShape}
use Rattle.pg_wire.specs.Records.{WireRecord}
use Rattle.pg_dyn.specs.declared.message.Content.{Content}
use Rattle.pg_dyn.specs.declared.message.Content.TheVariants as contents
use Rattle.pg_dyn.specs.declared.message.Value.{Value}
use Rattle.pg_dyn.specs.message.Message.{Leaf, Part, key_cmp}
use Rattle.pg_dyn.specs.message.Kept.{Kept, ends}
use Rattle.pg_dyn.specs.message.KeptParts.{KeptItem}
use Rattle.pg_dyn.specs.message.Seen.{all_seen, content_seen, entry_part, fields_onto, is_text, item_part, item_seen, leaf_of, Rises, IsFilled, IsKey, IsMapKey, HasKeys}
use Rattle.pg_dyn.specs.fitting.Belonging.{KeyFits, LeafFits, MayFollow}
use Rattle.pg_dyn.specs.fitting.Fits.{Fits, is_string}
use Rattle.pg_dyn.specs.fitting.PartsFit.{FieldHolds, HoldsItem, InOrder, IsPartOf}
use Rattle.pg_dyn.specs.fitting.ContentFits.{EntryKept, ItemKept, KeysRise, ContentFits, HoldsContent, FitsByContents}
use Rattle.pg_dyn.proofs.Lists.{each_both, each_weaker}
use Rattle.pg_dyn.proofs.lemmas.encoding.LentParts.{owned_filled}
use Rattle.pg_dyn.proofs.lemmas.fitting.FitsToParts.{contents_back}
use Rattle.pg_dyn.proofs.lemmas.fitting.ItemLeaves.{in_range, item_of_range, map_key_is_key, ZeroFits, zero_of_child, leaf_to, leaf_back, child_of}
use Rattle.pg_dyn.proofs.lemmas.fitting.PartsToFits.{fits_of_contents, HoldsParts, listed_keyless, whole_of, list_holds, map_holds}
use Rattle.pg_dyn.proofs.lemmas.message.ReplacingLaws.{content_number, type_of-kept_onto}
use Rattle.pg_dyn.proofs.lemmas.reading.Fields.{field_of}
use Rattle.pg_dyn.proofs.lemmas.reading.records.Splitting.{found_number}

module _ (shape : Shape) (type : TypeId) where
  -- what each shape of a content says of its field's presence
  one_gives : (p : Presence) (e : Element) (v : Value) → ContentFits shape p e (contents.One v) → KeyFits p None × (is_repeated p ≡ false) × ItemKept shape e v × ZeroFits p v
  one_gives p e v h = grind arith

  one_takes : (p : Presence) (e : Element) (v : Value) → KeyFits p None → is_repeated p ≡ false → ItemKept shape e v → ZeroFits p v → ContentFits shape p e (contents.One v)
  one_takes p e v key listed item h = grind arith

  many_gives : (p : Presence) (e : Element) (c : Content) (vs : Vec Value Global) → c ≡ contents.Many vs → ContentFits shape p e c → (is_repeated p ≡ true) × AllByRecursion (ItemKept shape e) vs.items
  many_gives p e c vs is h = grind arith

  many_takes : (p : Presence) (e : Element) (vs : Vec Value Global) → is_repeated p ≡ true → AllByRecursion (ItemKept shape e) vs.items → ContentFits shape p e (contents.Many vs)
  many_takes p e vs listed h = grind arith

  map_gives : (p : Presence) (e : Element) (c : Content) (es : Vec (Value × Value) Global) → c ≡ contents.Map es → ContentFits shape p e c → (key : Scalar) × (p ≡ presences.Map key) × AllByRecursion (EntryKept shape key e) es.items × KeysRise es.items
  map_gives p e c es is h = grind arith

  map_takes : (p : Presence) (e : Element) (es : Vec (Value × Value) Global) (key : Scalar) → p ≡ presences.Map key → AllByRecursion (EntryKept shape key e) es.items → KeysRise es.items → ContentFits shape p e (contents.Map es)
  map_takes p e es key is each rise = subst (λ x. ContentFits shape x e (contents.Map es)) (sym is) (each, rise)

  zero_listed : (p : Presence) (v : Value) → is_repeated p ≡ true → ZeroFits p v
  zero_listed p v h = grind arith

  -- From the contents to the message.

  item_holds : (n : ℕ) (p : Presence) (e : Element) (o : Option ℕ) (l : Bool) (v : Value) → is_repeated p ≡ l → ItemKept shape e v → ZeroFits p v
      → HoldsItem shape (field_of n p e o) (item_seen l v)
  item_holds n p e o l v listed item h = grind (arith, leaf_to, child_of)

  module _ (n : ℕ) (f : FieldShape) (number : n ≡ f.number) where
    one_part : (k : Option Leaf) (l : Bool) (v : Value) → KeyFits f.presence k → is_repeated f.presence ≡ l → ItemKept shape f.element v
        → ZeroFits f.presence v → IsPartOf shape f (record { number = n; key = k; item = item_seen l v })
    one_part k l v key listed item zero = search (rules, item_holds)

    items_hold : is_repeated f.presence ≡ true → (vs : List Value) → AllByRecursion (ItemKept shape f.element) vs
        → FieldHolds shape f (map (item_part n true) vs)
    items_hold listed vs h =
        search (rules, list_holds, each_weaker, one_part, listed_keyless, zero_listed)

    entries_hold : (key : Scalar) → f.presence ≡ presences.Map key → (es : List (Value × Value)) → AllByRecursion (EntryKept shape key f.element) es → KeysRise es
        → FieldHolds shape f (map (entry_part n) es)
    entries_hold key is es h rise =
        map_holds shape f (entry_part n) key is (λ (e : Value × Value). leaf_of e.0) (λ e. refl) es
        (each_weaker (EntryKept shape key f.element) (λ (e : Value × Value). IsPartOf shape f (entry_part n e))
        (λ e k. one_part (Some (leaf_of e.0)) false e.1 (subst (λ p. KeyFits p (Some (leaf_of e.0))) (sym is) (in_range key e.0 k.0)) (ap is_repeated is) k.1
        (subst (λ p. ZeroFits p e.1) (sym is) tt)) es h) rise

    content_holds : (c : Content) → ContentFits shape f.presence f.element c → FieldHolds shape f (content_seen n c)
    content_holds c h =
        grind (arith, one_gives, one_part, many_gives, items_hold, map_gives, entries_hold)

  holds_parts : (c : ℕ × Content) → HoldsContent shape type c → HoldsParts content_seen shape type c
  holds_parts c h = search (rules, content_holds, found_number)

  -- And back.

  leaf_held : (f : FieldShape) (l : Bool) (v : Value) → IsKey v → is_repeated f.presence ≡ l → is_text v ≡ is_string f.element → LeafFits f (leaf_of v)
      → (is_repeated f.presence ≡ l) × ItemKept shape f.element v × ZeroFits f.presence v
  leaf_held f l v key listed text h = search (rules, leaf_back)

  item_held : (f : FieldShape) (l : Bool) (v : Value) → HoldsItem shape f (item_seen l v) → (is_repeated f.presence ≡ l) × ItemKept shape f.element v × ZeroFits f.presence v
  item_held f l v h = grind (arith, leaf_held, zero_of_child)

  module _ (n : ℕ) (f : FieldShape) where
    items_listed : (vs : List Value) → vs ≢ [] → AllByRecursion (IsPartOf shape f) (map (item_part n true) vs) → is_repeated f.presence ≡ true
    items_listed [] some h = absurd (some refl)
    items_listed (v ∷ vs) some h = (item_held f true v h.0.item).0

    items_kept : (vs : List Value) → AllByRecursion (IsPartOf shape f) (map (item_part n true) vs) → AllByRecursion (ItemKept shape f.element) vs
    items_kept [] h = tt
    items_kept (v ∷ vs) h = ((item_held f true v h.0.item).1, items_kept vs h.1)

    map_of : (p : Presence) (k : Leaf) → KeyFits p (Some k) → (key : Scalar) × (p ≡ presences.Map key)
    map_of p k h = grind arith

    entries_keyed : (es : List (Value × Value)) → es ≢ [] → AllByRecursion (IsPartOf shape f) (map (entry_part n) es) → (key : Scalar) × (f.presence ≡ presences.Map key)
    entries_keyed [] some h = absurd (some refl)
    entries_keyed (e ∷ es) some h = map_of f.presence (leaf_of e.0) h.0.key_fits

    entries_kept : (key : Scalar) → f.presence ≡ presences.Map key → (es : List (Value × Value)) → AllByRecursion (λ (e : Value × Value). IsMapKey e.0) es
        → AllByRecursion (IsPartOf shape f) (map (entry_part n) es) → AllByRecursion (EntryKept shape key f.element) es
    entries_kept key is [] keys h = tt
    entries_kept key is (e ∷ es) keys h =
        search (rules, item_of_range, map_key_is_key, item_held, entries_kept key is es keys.1 h.1)

    entries_rise : (key : Scalar) → f.presence ≡ presences.Map key → (es : List (Value × Value)) → InOrder f.presence (map (entry_part n) es) → KeysRise es
    entries_rise key is [] h = tt
    entries_rise key is (e ∷ es) h = (below es h.0, entries_rise key is es h.1)
      where
        below : (xs : List (Value × Value)) → AllByRecursion (λ (q : Part KeptItem). MayFollow f.presence (Some (leaf_of e.0)) q.key) (map (entry_part n) xs)
            → AllByRecursion (λ (x : Value × Value). key_cmp (leaf_of e.0) (leaf_of x.0) ≡ Less) xs
        below [] k = tt
        below (x ∷ xs) k = (subst (λ p. MayFollow p (Some (leaf_of e.0)) (Some (leaf_of x.0))) is k.0, below xs k.1)

    content_held : (c : Content) → IsFilled c → HasKeys c → FieldHolds shape f (content_seen n c) → ContentFits shape f.presence f.element c
    content_held c filled keys h =
        grind (
          arith,
          item_held,
          one_takes,
          many_takes,
          items_listed,
          items_kept,
          entries_keyed,
          map_takes,
          entries_kept,
          entries_rise,
        )

  held_parts : (c : ℕ × Content) → IsFilled c.1 → HasKeys c.1 → HoldsParts content_seen shape type c → HoldsContent shape type c
  held_parts c filled keys h = record { field = h.field; found = h.found; fits = content_held c.0 h.field c.1 filled keys h.holds }

-- A message fits just where its contents do.
module _ (shape : Shape) (type : TypeId) (ms : List (ℕ × Content)) (us : List WireRecord) (m : Kept) (view : fields_onto ms (ends type us) ≡ m) where
  pub fits_from_contents : Rises ms → FitsByContents shape type ms us → Fits shape m
  fits_from_contents rises h =
      subst (Fits shape) view
      (fits_of_contents content_seen shape type ms us h.type_is_there rises
      (each_weaker (HoldsContent shape type) (HoldsParts content_seen shape type) (holds_parts shape type) ms h.each) h.apart h.unknown)

  pub contents_from_fits : IsShape shape → AllByRecursion (λ (x : ℕ × Content). IsFilled x.1) ms → AllByRecursion (λ (x : ℕ × Content). HasKeys x.1) ms → Fits shape m → FitsByContents shape type ms us
  contents_from_fits is_shape filled keys fits =
      let here = subst (Fits shape) (sym view) fits in
      let same = type_of-kept_onto (all_seen ms) (ends type us) in
      let there = each_weaker (λ (x : ℕ × Content). IsFilled x.1) (λ (x : ℕ × Content). content_seen x.0 x.1 ≢ []) (λ x. owned_filled x.0 x.1) ms filled in
      let (held, apart, unknown) = contents_back content_seen content_number shape type is_shape ms us there (whole_of shape type (fields_onto ms (ends type us)) same here) in
      record {
        type_is_there = subst (λ (t : TypeId). t.index < length shape) same here.type_is_there;
        each = each_weaker (λ (x : ℕ × Content). (IsFilled x.1 × HasKeys x.1) × HoldsParts content_seen shape type x) (HoldsContent shape type)
            (λ x k. held_parts shape type x k.0.0 k.0.1 k.1) ms
            (each_both (λ (x : ℕ × Content). IsFilled x.1 × HasKeys x.1) (HoldsParts content_seen shape type) ms
            (each_both (λ (x : ℕ × Content). IsFilled x.1) (λ (x : ℕ × Content). HasKeys x.1) ms filled keys) held);
        apart = apart;
        unknown = unknown;
      }
