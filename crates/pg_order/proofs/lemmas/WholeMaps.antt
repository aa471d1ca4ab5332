-- A map that the new type keeps is a map there too, of which no entry is written over.
use Rattle.std.proofs.Common.{◌≡◌, ℕ, ◌≤◌, ◌⊎◌, inl, inr, List, [], ◌∷◌, map, filter, length, Bool, true, false, not, ◌&&◌, Option, Some, None, is_some, refl, ap, sym, subst, ◌∙◌, arith, eq-eqb}
use Rattle.std.specs.List.{AllByRecursion}
use Rattle.std.proofs.lemmas.Bool.{and_parts}
use Rattle.std.proofs.lemmas.List.{length-map}
use lib.Pointwise.{pointwise, pointwise_long}
use Rattle.pg_schema.specs.declared.parts.field.Element.{Element}
use Rattle.pg_schema.specs.declared.parts.field.Presence.{Presence}
use Rattle.pg_schema.specs.declared.parts.field.Presence.TheVariants as presences
use Rattle.pg_schema.specs.Shape.{FieldShape, is_map, is_singular}
use Rattle.pg_schema.specs.ShapeRules.{PresenceFits}
use Rattle.pg_wire.specs.declared.record.WireType.TheVariants.{Len}
use Rattle.pg_wire.specs.Records.{WireRecord, written}
use Rattle.pg_dyn.specs.reading.Optional.{all_some}
use Rattle.pg_dyn.specs.message.Message.{Leaf, Item, Part, is_of}
use Rattle.pg_dyn.specs.reading.Content.{content, takes}
use Rattle.pg_dyn.specs.encoding.Writing.{entry_bytes, field_records, key_of}
use Rattle.pg_dyn.specs.reading.Decoding.{Reader, read_part}
use Rattle.pg_dyn.specs.fitting.Belonging.{KeyFits}
use Rattle.pg_dyn.specs.laws.ByComparands.{is_field_kept}
use Rattle.pg_dyn.specs.views.Comparison.{View, Comparand, Expected, expects, hides_zero, is_zero_expected, is_zero_item, matches, same_key, shown, writes}
use Rattle.pg_dyn.proofs.Lists.{and_then_some, each_filtered, each-map, each_weaker, filter_all}
use Rattle.pg_dyn.proofs.lemmas.reading.Fields.{field_of}
use Rattle.pg_dyn.proofs.lemmas.reading.records.Splitting.{field_records_none}
use Rattle.pg_order.proofs.lemmas.KeyKinds.{all_some-length}
use Rattle.pg_order.proofs.lemmas.KindsRead.{OfKinds, kinds_read}
use Rattle.pg_order.proofs.lemmas.FieldSeen.{IsShown, shown_parts}
use Rattle.pg_order.proofs.lemmas.FieldAgain.{filter_few, shown_few}
use Rattle.pg_order.proofs.lemmas.Reordered.{IsWholeMap}

not_singular : (p : Presence) → is_map p ≡ true → is_singular p ≡ false
not_singular presences.Implicit is = absurd (cc)
not_singular presences.Explicit is = absurd (cc)
not_singular (presences.Repeated packed) is = refl
not_singular (presences.Map key) is = refl

has_key : (p : Presence) (key : Option Leaf) → is_map p ≡ true → KeyFits p key → is_some key ≡ true
has_key presences.Implicit key is fits = absurd (cc)
has_key presences.Explicit key is fits = absurd (cc)
has_key (presences.Repeated packed) key is fits = absurd (cc)
has_key (presences.Map k) None is fits = absurd fits
has_key (presences.Map k) (Some l) is fits = refl

same_kind : (k l : Option Leaf) → same_key k l ≡ true → is_some k ≡ true → is_some l ≡ true
same_kind None l same is = absurd (cc)
same_kind (Some k) None same is = absurd (cc)
same_kind (Some k) (Some l) same is = refl

-- an entry for each part
as_many_entries : (n : ℕ) (p : Presence) (e : Element) (o : Option ℕ) → is_map p ≡ true → (ps : List (Part Leaf)) → length (field_records (field_of n p e o) ps) ≡ length ps
as_many_entries n presences.Implicit e o is ps = absurd (cc)
as_many_entries n presences.Explicit e o is ps = absurd (cc)
as_many_entries n (presences.Repeated packed) e o is ps = absurd (cc)
as_many_entries n (presences.Map key) e o is ps = length-map ps (λ (p : Part Leaf). written n Len (entry_bytes key e (key_of key p) p.item))

whole_map : (n : ℕ) (p : Presence) (e : Element) (o : Option ℕ) → PresenceFits p e o → is_map p ≡ true → (rs : List WireRecord) (ps : List (Part Leaf)) → content (field_of n p e o) rs ≡ Some ps → length rs ≤ length ps → IsWholeMap (field_of n p e o) rs
whole_map n presences.Implicit e o fits is rs ps read many = absurd (cc)
whole_map n presences.Explicit e o fits is rs ps read many = absurd (cc)
whole_map n (presences.Repeated packed) e o fits is rs ps read many = absurd (cc)
whole_map n (presences.Map key) e o fits is rs ps read many = record { key = key; is_map = refl; is_key = fits.1; parts = ps; content_is = read; all_there = many }

module _ (view : View) (child : Reader) (f g : FieldShape) (is : is_map f.presence ≡ true) (fits : PresenceFits g.presence g.element g.oneof) where
  abbrev own : List Comparand → List WireRecord
  own cs = field_records f (map writes cs)

  abbrev meets : Part Expected → Part Item → Bool
  meets x y = same_key x.key y.key && matches view f g x.item y.item

  abbrev Entry : Comparand → Type 0
  Entry c = (c.number ≡ f.number) × KeyFits f.presence c.key

  shows_all : (hidden : Bool) → hidden ≡ false → (cs : List Comparand) → AllByRecursion Entry cs → shown is_zero_expected hidden f.number (map expects cs) ≡ map expects cs
  shows_all hidden none cs each =
      filter_all (λ p. is_of f.number p && not (hidden && is_zero_expected p.item)) (map expects cs)
      (each-map (λ (p : Part Expected). (is_of f.number p && not (hidden && is_zero_expected p.item)) ≡ true) expects cs
      (each_weaker Entry (λ c. (is_of f.number (expects c) && not (hidden && is_zero_expected c.expected)) ≡ true)
      (λ c k. rw (eq-eqb c.number f.number k.0, none) refl) cs each))

  module _ (c : Comparand) (rest : List Comparand) (each : AllByRecursion Entry (c ∷ rest)) (kept : is_field_kept view child f g (c ∷ rest) ≡ true) where
    found : IsShown view child f g (c ∷ rest)
    found = shown_parts view child f g (c ∷ rest) kept

    abbrev shown_items : List (Part Item)
    shown_items = shown is_zero_item (hides_zero f g) f.number found.parts

    all_met : pointwise meets (map expects (c ∷ rest)) shown_items ≡ true
    all_met = subst (λ xs. pointwise meets xs shown_items ≡ true) (shows_all (hides_zero f g) (rw (not_singular f.presence is) refl) (c ∷ rest) each) found.same

    keyed : AllByRecursion (λ (q : Part Item). is_some q.key ≡ is_map g.presence) shown_items
    keyed =
        each_filtered (λ (q : Part Item). is_some q.key ≡ is_map g.presence) _ found.parts
        (each_weaker (OfKinds g.presence g.element) (λ (q : Part Item). is_some q.key ≡ is_map g.presence) (λ q k. k.keyed) found.parts (kinds_read child g (own (c ∷ rest)) found.parts found.is_read))

    map_there : is_map g.presence ≡ true
    map_there = of shown_items all_met keyed
      where
        of : (qs : List (Part Item)) → pointwise meets (expects c ∷ map expects rest) qs ≡ true → AllByRecursion (λ (q : Part Item). is_some q.key ≡ is_map g.presence) qs → is_map g.presence ≡ true
        of [] met keys = absurd (cc)
        of (q ∷ qs) met keys =
            let first = and_parts (same_key c.key q.key) (matches view f g c.expected q.item) (and_parts (meets (expects c) q) (pointwise meets (map expects rest) qs) met).0 in
            sym keys.0 ∙ same_kind c.key q.key first.0 (has_key f.presence c.key is each.0.1)

    entries_whole : IsWholeMap g (filter (takes g) (own (c ∷ rest)))
    entries_whole =
        let (ps, read, made) = and_then_some (λ (qs : List (Part Leaf)). all_some (map (read_part child g.element) qs)) (content g (filter (takes g) (own (c ∷ rest)))) found.parts found.is_read in
        let as_many = all_some-length (read_part child g.element) ps found.parts made in
        let long = pointwise_long meets (map expects (c ∷ rest)) shown_items all_met in
        whole_map g.number g.presence g.element g.oneof fits map_there (filter (takes g) (own (c ∷ rest))) ps read
        (omega (
          arith,
          as_many,
          long,
          shown_few (hides_zero f g) f.number found.parts,
          filter_few (takes g) (own (c ∷ rest)),
          as_many_entries f.number f.presence f.element f.oneof is (map writes (c ∷ rest)),
          length-map (c ∷ rest) writes,
          length-map (c ∷ rest) expects,
        ))

  pub none_or_whole : (cs : List Comparand) → AllByRecursion Entry cs → is_field_kept view child f g cs ≡ true → (filter (takes g) (own cs) ≡ []) ⊎ IsWholeMap g (filter (takes g) (own cs))
  none_or_whole [] each kept = inl (ap (filter (takes g)) (field_records_none f))
  none_or_whole (c ∷ rest) each kept = inr (entries_whole c rest each kept)
