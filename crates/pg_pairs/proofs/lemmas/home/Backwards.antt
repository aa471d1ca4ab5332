-- A content that crosses comes back: what the new type writes of it the old one reads.
use Rattle.std.proofs.Common.{◌≡◌, ℕ, ◌<◌, ◌^◌, List, [], ◌∷◌, map, true, false, ◌&&◌, Option, Some, None, unwrap_or, refl, ap, sym, ◌∙◌, subst, arith, rules}
use Rattle.std.specs.List.{AllByRecursion}
use Rattle.std.specs.declared.cmp.Ordering.TheVariants.{Less}
use Rattle.std.proofs.lemmas.Bool.{or_left}
use Rattle.pg_schema.specs.declared.parts.field.Scalar.{Scalar}
use Rattle.pg_schema.specs.declared.parts.field.Element.{Element}
use Rattle.pg_schema.specs.declared.parts.field.Element.TheVariants as elements
use Rattle.pg_schema.specs.declared.parts.field.Presence.{Presence}
use Rattle.pg_schema.specs.declared.parts.field.Presence.TheVariants as presences
use Rattle.pg_schema.specs.Shape.{Shape, FieldShape, is_singular, is_implicit, is_repeated, is_packable}
use Rattle.pg_schema.specs.ShapeRules.{PresenceFits}
use Rattle.pg_dyn.specs.message.Message.{Leaf, Part, is_zero, key_cmp}
use Rattle.pg_dyn.specs.word.Coding.{form, body, zero_leaf, InRange}
use Rattle.pg_dyn.specs.laws.Bodies.{IsReadAs}
use Rattle.pg_dyn.specs.encoding.Writing.{is_packed, key_of}
use Rattle.pg_dyn.specs.reading.Decoding.{dec, is_child}
use Rattle.pg_dyn.specs.encoding.Encoding.{element_type}
use Rattle.pg_dyn.specs.fitting.Belonging.{MayBeZero}
use Rattle.pg_dyn.specs.views.Comparison.{numbers, Comparand, writes}
use Rattle.pg_dyn.proofs.Lists.{each_weaker, each_both, each-map, each_of_all}
use Rattle.pg_pairs.specs.gaps.Likeness.{like}
use Rattle.pg_pairs.specs.laws.ReadBack.{is_bool_of_zigzag}
use Rattle.pg_pairs.specs.gaps.Gaps.{body_length}
use Rattle.pg_pairs.specs.inner.Contents.{total, IsAtMostOne, RisingKeys}
use Rattle.pg_pairs.proofs.lemmas.gaps.GapItems.{IsLeafy, implicit_leafy}
use Rattle.pg_pairs.proofs.lemmas.bounds.Across.{Seen, Across, item_read}
use Rattle.pg_pairs.proofs.lemmas.bounds.AcrossPlain.{IsNoMap}
use Rattle.pg_pairs.proofs.lemmas.bounds.AcrossMap.{SeenEntry}
use Rattle.pg_pairs.proofs.lemmas.bounds.Comparands.{length-entry_bytes, EntryCosts, entry_costs}
use Rattle.pg_pairs.proofs.lemmas.home.Returned.{leaf_again, returned, IsGood, ComesBack, IsRead, back_read, back_seen}
use Rattle.pg_pairs.proofs.lemmas.witness.carried.CarriedItems.{like_leafy}
use Rattle.pg_pairs.proofs.lemmas.gaps.Likes.{like_back}
use Rattle.pg_pairs.proofs.lemmas.bounds.Ways.{plain_across, map_across, PlainWay, Crosses}

-- what holds of an image's elements
pub each_of_map : {A B : Type 0} (P : B → Type 0) (h : A → B) (xs : List A) → AllByRecursion P (map h xs) → AllByRecursion (λ x. P (h x)) xs
each_of_map P h [] all = tt
each_of_map P h (x ∷ xs) all = (all.0, each_of_map P h xs all.1)

-- what holds of what comparands write holds of others that write the same
pub transferred : (P : Part Leaf → Type 0) (cs hs : List Comparand) → map writes hs ≡ map writes cs → AllByRecursion (λ c. P (writes c)) cs → AllByRecursion (λ h. P (writes h)) hs
transferred P cs hs same all = each_of_map P writes hs (subst (AllByRecursion P) (sym same) (each-map P writes cs all))

one_of_same : (k : Comparand → Comparand) (cs hs : List Comparand) → map writes hs ≡ map writes cs → IsAtMostOne cs → IsAtMostOne (map k hs)
one_of_same k cs [] same one = tt
one_of_same k cs (h ∷ []) same one = tt
one_of_same k [] (h ∷ h' ∷ hs) same one = absurd (cc)
one_of_same k (c ∷ []) (h ∷ h' ∷ hs) same one = absurd (cc)
one_of_same k (c ∷ c' ∷ cs) (h ∷ h' ∷ hs) same one = absurd one

-- keys that rise, of parts
abbrev RisingParts : Scalar → List (Part Leaf) → Type 0
RisingParts k [] = Unit {0}
RisingParts k (p ∷ ps) = AllByRecursion (λ q. key_cmp (key_of k p) (key_of k q) ≡ Less) ps × RisingParts k ps

to_parts : (k : Scalar) (cs : List Comparand) → RisingKeys k cs → RisingParts k (map writes cs)
to_parts k [] h = tt
to_parts k (c ∷ cs) h = (each-map (λ q. key_cmp (key_of k (writes c)) (key_of k q) ≡ Less) writes cs h.0, to_parts k cs h.1)

of_parts : (k : Scalar) (cs : List Comparand) → RisingParts k (map writes cs) → RisingKeys k cs
of_parts k [] h = tt
of_parts k (c ∷ cs) h = (each_of_map (λ q. key_cmp (key_of k (writes c)) (key_of k q) ≡ Less) writes cs h.0, of_parts k cs h.1)

key_with : (k l : Scalar) (key : Option Leaf) → key ≡ Some (unwrap_or key (zero_leaf (form (elements.Scalar k)))) → unwrap_or key (zero_leaf (form (elements.Scalar l))) ≡ unwrap_or key (zero_leaf (form (elements.Scalar k)))
key_with k l (Some leaf) h = refl
key_with k l None h = absurd (cc)

rising_back : (k l : Scalar) (make : Comparand → Comparand) → ((h : Comparand) → (make h).key ≡ h.key) → (hs : List Comparand) → AllByRecursion (λ (h : Comparand). h.key ≡ Some (key_of k (writes h))) hs → RisingKeys k hs → RisingKeys l (map make hs)
rising_back k l make keys [] there rising = tt
rising_back k l make keys (h ∷ hs) there rising = (
  each-map (λ d. key_cmp (key_of l (writes (make h))) (key_of l (writes d)) ≡ Less) make hs
      (each_weaker (λ d. (d.key ≡ Some (key_of k (writes d))) × (key_cmp (key_of k (writes h)) (key_of k (writes d)) ≡ Less)) (λ d. key_cmp (key_of l (writes (make h))) (key_of l (writes (make d))) ≡ Less)
      (λ d both. (λ i. key_cmp (same_key_of h there.0 i) (same_key_of d both.0 i)) ∙ both.1)
      hs (each_both (λ (d : Comparand). d.key ≡ Some (key_of k (writes d))) (λ d. key_cmp (key_of k (writes h)) (key_of k (writes d)) ≡ Less) hs there.1 rising.0)),
  rising_back k l make keys hs there.1 rising.1,
)
  where
    same_key_of : (d : Comparand) → d.key ≡ Some (key_of k (writes d)) → key_of l (writes (make d)) ≡ key_of k (writes d)
    same_key_of d has = ap (λ key. unwrap_or key (zero_leaf (form (elements.Scalar l)))) (keys d) ∙ key_with k l d.key has

packed_beside : (p q : Presence) → IsNoMap p → (is_singular p && is_packed q) ≡ false → is_packed q ≡ true → is_repeated p ≡ true
packed_beside presences.Implicit q no_map h packed = absurd (cc)
packed_beside presences.Explicit q no_map h packed = absurd (cc)
packed_beside (presences.Repeated w) q no_map h packed = refl
packed_beside (presences.Map k) q no_map h packed = absurd no_map

packed_packable : (q : Presence) (d : Element) (r : Option ℕ) → PresenceFits q d r → is_packed q ≡ true → is_packable d ≡ true
packed_packable presences.Implicit d r fits h = absurd (cc)
packed_packable presences.Explicit d r fits h = absurd (cc)
packed_packable (presences.Repeated w) d r fits h = fits.1 h
packed_packable (presences.Map k) d r fits h = absurd (cc)

leaf_kept : (new : Shape) (d : Element) (leaf : Leaf) → IsLeafy d → leaf_again new (element_type d) (item_read (dec new) d leaf) ≡ leaf
leaf_kept new (elements.Scalar s) leaf leafy = refl
leaf_kept new (elements.Enum s) leaf leafy = refl
leaf_kept new (elements.Message s) leaf leafy = absurd leafy

module _ (old new : Shape) (number : ℕ) (e d : Element) (o r : Option ℕ) (cs hs : List Comparand) (same : map writes hs ≡ map writes cs)
    (numbered : AllByRecursion (λ (h : Comparand). h.number ≡ number) hs) (back : AllByRecursion (ComesBack old new e d) hs)
    (good : AllByRecursion (λ (h : Comparand). IsGood new (element_type d) (item_read (dec new) d h.written)) hs) (is_like : like e d ≡ true) (apart : is_bool_of_zigzag e d ≡ false) where
  abbrev of_old : Presence → FieldShape
  of_old p = record { number = number; presence = p; element = e; oneof = o }

  abbrev of_new : Presence → FieldShape
  of_new q = record { number = number; presence = q; element = d; oneof = r }

  abbrev again : List Comparand
  again = map (returned new d) hs

  module _ (p q : Presence) (fits_old : PresenceFits p e o) (fits_new : PresenceFits q d r) (seen : AllByRecursion (Seen numbers (dec new) (of_old p) (of_new q)) cs) where
    all_read : AllByRecursion (IsRead (dec new) e d) hs
    all_read =
        each_weaker (λ h. IsReadAs (form d) (body (form e) h.written) h.written × (is_child (dec new) d (body (form e) h.written) ≡ true)) (IsRead (dec new) e d)
        (λ h k. record { body_read = k.0; child_there = k.1 }) hs
        (transferred (λ p. IsReadAs (form d) (body (form e) p.item) p.item × (is_child (dec new) d (body (form e) p.item) ≡ true)) cs hs same
        (each_weaker (Seen numbers (dec new) (of_old p) (of_new q)) (λ c. IsReadAs (form d) (body (form e) c.written) c.written × (is_child (dec new) d (body (form e) c.written) ≡ true)) (λ c k. (k.body_read, k.child_there)) cs seen))

    pub all_back : AllByRecursion (Seen numbers (dec old) (of_new q) (of_old p)) again
    all_back =
        each-map (Seen numbers (dec old) (of_new q) (of_old p)) (returned new d) hs
        (each_weaker (λ h. ((h.number ≡ number) × IsRead (dec new) e d h) × (IsGood new (element_type d) (item_read (dec new) d h.written) × ComesBack old new e d h)) (λ h. Seen numbers (dec old) (of_new q) (of_old p) (returned new d h))
        (λ h k. back_seen old new (of_old p) (of_new q) refl e d h k.0.0 is_like apart k.0.1 k.1.0 k.1.1) hs
        (each_both _ _ hs (each_both _ _ hs numbered all_read) (each_both _ _ hs good back)))

    not_zero_again : IsLeafy e → AllByRecursion (λ (c : Comparand). is_zero c.written ≡ false) cs → AllByRecursion (λ (c : Comparand). is_zero c.written ≡ false) again
    not_zero_again leafy not_zero =
        each-map (λ (c : Comparand). is_zero c.written ≡ false) (returned new d) hs
        (each_weaker (λ (h : Comparand). is_zero h.written ≡ false) (λ h. is_zero (returned new d h).written ≡ false)
        (λ h k. ap is_zero (leaf_kept new d h.written (like_leafy e d is_like leafy)) ∙ k) hs
        (transferred (λ p. is_zero p.item ≡ false) cs hs same not_zero))

    may_be_zero : (p' : Presence) → p' ≡ p → (is_implicit p ≡ true → AllByRecursion (λ (c : Comparand). is_zero c.written ≡ false) cs) → AllByRecursion (λ (c : Comparand). MayBeZero p' c.written) again
    may_be_zero presences.Implicit is not_zero = search (rules, not_zero_again, implicit_leafy)
    may_be_zero presences.Explicit is not_zero = each_of_all (λ (c : Comparand). MayBeZero presences.Explicit c.written) (λ c. tt) again
    may_be_zero (presences.Repeated w) is not_zero = each_of_all (λ (c : Comparand). MayBeZero (presences.Repeated w) c.written) (λ c. tt) again
    may_be_zero (presences.Map k) is not_zero = each_of_all (λ (c : Comparand). MayBeZero (presences.Map k) c.written) (λ c. tt) again

    plain_back : PlainWay p q cs → (is_singular p && is_packed q) ≡ false → Across (dec old) (of_new q) (of_old p) again
    plain_back way unpacked =
        plain_across numbers (dec old) number d e r o (like_back e d is_like) q p way.no_map_new way.no_map_old again all_back
        (record {
          no_key = each-map (λ (c : Comparand). c.key ≡ None) (returned new d) hs (transferred (λ p. p.key ≡ None) cs hs same way.no_key);
          may_be_zero = may_be_zero p refl (λ implicit. way.not_zero (or_left (is_implicit p) (is_implicit q) implicit));
          one = λ singular. one_of_same (returned new d) cs hs same (way.one (or_left (is_singular p) (is_singular q) singular));
          unpacked = packed_beside p q way.no_map_old unpacked;
          packable = packed_packable q d r fits_new;
        })

  entry_again : (k l : Scalar) → like (elements.Scalar k) (elements.Scalar l) ≡ true → is_bool_of_zigzag (elements.Scalar k) (elements.Scalar l) ≡ false → (whole : ℕ) → whole < 2 ^ 64 → (h : Comparand) → EntryCosts (of_new (presences.Map l)) l whole (returned new d h) → h.key ≡ Some (key_of k (writes h)) → InRange (form (elements.Scalar k)) (key_of k (writes h)) → IsReadAs (form (elements.Scalar l)) (body (form (elements.Scalar k)) (key_of k (writes h))) (key_of k (writes h)) → SeenEntry (of_new (presences.Map l)) l k (returned new d h)
  entry_again k l keys_like keys_apart whole short h cost there range read =
      let same_key : key_of l (writes h) ≡ key_of k (writes h) = key_with k l h.key there in
      let within = cost (body_length (form (elements.Scalar l)) (key_of l (writes (returned new d h)))) (body_length (form d) (returned new d h).written) (omega arith) (omega arith) in
      let entry = length-entry_bytes l d (key_of l (writes (returned new d h))) (returned new d h).written in
      record {
        key_there = there ∙ ap Some (sym same_key);
        key_seen = subst (λ key. IsReadAs (form (elements.Scalar k)) (body (form (elements.Scalar l)) key) key) (sym same_key) (back_read (elements.Scalar k) (elements.Scalar l) (key_of k (writes h)) keys_like keys_apart range read);
        short = omega arith;
      }

  map_back : (k l : Scalar) → PresenceFits (presences.Map k) e o → PresenceFits (presences.Map l) d r → AllByRecursion (Seen numbers (dec new) (of_old (presences.Map k)) (of_new (presences.Map l))) cs → like (elements.Scalar k) (elements.Scalar l) ≡ true → is_bool_of_zigzag (elements.Scalar k) (elements.Scalar l) ≡ false → AllByRecursion (λ c. InRange (form (elements.Scalar k)) (key_of k (writes c))) cs → AllByRecursion (SeenEntry (of_old (presences.Map k)) k l) cs → RisingKeys k cs → total (of_new (presences.Map l)) again < 2 ^ 64 → Across (dec old) (of_new (presences.Map l)) (of_old (presences.Map k)) again
  map_back k l fits_old fits_new seen keys_like keys_apart ranges entries rising short =
      let there : AllByRecursion (λ (h : Comparand). h.key ≡ Some (key_of k (writes h))) hs =
      transferred (λ p. p.key ≡ Some (key_of k p)) cs hs same (each_weaker (SeenEntry (of_old (presences.Map k)) k l) (λ c. c.key ≡ Some (key_of k (writes c))) (λ c s. s.key_there) cs entries) in
      let keys_read : AllByRecursion (λ (h : Comparand). IsReadAs (form (elements.Scalar l)) (body (form (elements.Scalar k)) (key_of k (writes h))) (key_of k (writes h))) hs =
      transferred (λ p. IsReadAs (form (elements.Scalar l)) (body (form (elements.Scalar k)) (key_of k p)) (key_of k p)) cs hs same (each_weaker (SeenEntry (of_old (presences.Map k)) k l) (λ c. IsReadAs (form (elements.Scalar l)) (body (form (elements.Scalar k)) (key_of k (writes c))) (key_of k (writes c))) (λ c s. s.key_seen) cs entries) in
      let in_range : AllByRecursion (λ (h : Comparand). InRange (form (elements.Scalar k)) (key_of k (writes h))) hs = transferred (λ p. InRange (form (elements.Scalar k)) (key_of k p)) cs hs same ranges in
      let costs : AllByRecursion (λ h. EntryCosts (of_new (presences.Map l)) l (total (of_new (presences.Map l)) again) (returned new d h)) hs =
      each_of_map (EntryCosts (of_new (presences.Map l)) l (total (of_new (presences.Map l)) again)) (returned new d) hs (entry_costs (dec old) (of_new (presences.Map l)) l refl again) in
      let back_entries : AllByRecursion (SeenEntry (of_new (presences.Map l)) l k) again =
      each-map (SeenEntry (of_new (presences.Map l)) l k) (returned new d) hs
      (each_weaker (λ h. (EntryCosts (of_new (presences.Map l)) l (total (of_new (presences.Map l)) again) (returned new d h) × (h.key ≡ Some (key_of k (writes h)))) × (InRange (form (elements.Scalar k)) (key_of k (writes h)) × IsReadAs (form (elements.Scalar l)) (body (form (elements.Scalar k)) (key_of k (writes h))) (key_of k (writes h)))) (λ h. SeenEntry (of_new (presences.Map l)) l k (returned new d h))
      (λ h x. entry_again k l keys_like keys_apart (total (of_new (presences.Map l)) again) short h x.0.0 x.0.1 x.1.0 x.1.1) hs
      (each_both _ _ hs (each_both _ _ hs costs there) (each_both _ _ hs in_range keys_read))) in
      map_across numbers (dec old) number d e r o (like_back e d is_like) l k (like_back (elements.Scalar k) (elements.Scalar l) keys_like) again
      (all_back (presences.Map k) (presences.Map l) fits_old fits_new seen) back_entries
      (rising_back k l (returned new d) (λ h. refl) hs there (of_parts k hs (subst (RisingParts k) (sym same) (to_parts k cs rising))))

  -- either way
  pub across_back : (p q : Presence) → PresenceFits p e o → PresenceFits q d r → Crosses numbers (dec new) (of_old p) (of_new q) cs → (is_singular p && is_packed q) ≡ false → total (of_new q) again < 2 ^ 64 → Across (dec old) (of_new q) (of_old p) again
  across_back p q fits_old fits_new crosses unpacked short = search (rules, plain_back, map_back)
