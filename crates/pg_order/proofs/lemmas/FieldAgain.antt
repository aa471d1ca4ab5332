-- A field of children that the new type keeps, each child by itself and all together, is kept too where each child is written
-- otherwise and is read again.
use Rattle.std.proofs.Common.{◌≡◌, ℕ, ◌≤◌, suc, List, [], ◌∷◌, map, filter, length, Bool, true, false, ◌&&◌, Option, Some, None, is_some, unwrap_or, option_map, refl, ap, sym, subst, ◌∙◌, arith, rules}
use Rattle.std.specs.List.{AllByRecursion}
use lib.Pointwise.{pointwise_long}
use Rattle.std.proofs.lemmas.List.{length-map}
use Rattle.pg_schema.specs.declared.parts.field.TypeId.{TypeId}
use Rattle.pg_schema.specs.declared.parts.field.Scalar.{Scalar}
use Rattle.pg_schema.specs.declared.parts.field.Element.{Element}
use Rattle.pg_schema.specs.declared.parts.field.Element.TheVariants as elements
use Rattle.pg_schema.specs.declared.parts.field.Presence.{Presence}
use Rattle.pg_schema.specs.declared.parts.field.Presence.TheVariants as presences
use Rattle.pg_schema.specs.Shape.{FieldShape, is_map}
use Rattle.pg_schema.specs.ShapeRules.{PresenceFits}
use Rattle.pg_wire.specs.Records.{WireRecord}
use Rattle.pg_dyn.specs.reading.Optional.{all_some, joined}
use Rattle.pg_dyn.specs.message.Message.{Leaf, Bytes, Item, Part}
use Rattle.pg_dyn.specs.word.Coding.{InRange, form, zero_leaf}
use Rattle.pg_dyn.specs.reading.Content.{content, last_item, leaves_in, merged, takes}
use Rattle.pg_dyn.specs.encoding.Writing.{field_records}
use Rattle.pg_dyn.specs.reading.Decoding.{Reader, read_part}
use Rattle.pg_dyn.specs.fitting.Belonging.{KeyFits}
use Rattle.pg_dyn.specs.laws.ByComparands.{is_field_kept}
use Rattle.pg_dyn.specs.laws.FieldLaws.{EntriesRise}
use Rattle.pg_dyn.specs.views.Comparison.{View, Expected, expects, hides_zero, is_zero_expected, is_zero_item, matches, same_key, shown, writes}
use Rattle.pg_dyn.proofs.Lists.{and_then_some, each_weaker, option_map_some}
use Rattle.pg_dyn.proofs.lemmas.reading.Fields.{field_of}
use Rattle.pg_order.proofs.lemmas.KeyKinds.{all_some-length}
use Rattle.pg_order.proofs.lemmas.KindsRead.{shown_child}
use Rattle.pg_order.proofs.lemmas.FieldSeen.{IsGood, Pair, kept_from_content, kept_kinds, key_or, list_content, new_of, old_of, one_content, shown_parts}
use Rattle.pg_order.proofs.lemmas.MapSeen.{HasKey, maps_kept}

pub filter_few : {A : Type 0} (test : A → Bool) (xs : List A) → length (filter test xs) ≤ length xs
filter_few test [] = omega arith
filter_few test (x ∷ xs) = search (rules, arith, filter_few test xs)

pub shown_few : (hidden : Bool) (n : ℕ) (qs : List (Part Item)) → length (shown is_zero_item hidden n qs) ≤ length qs
shown_few hidden n qs = filter_few _ qs

-- a singular field of messages has one item at most
merged_few : (ls : List Leaf) → length (merged ls) ≤ 1
merged_few [] = omega arith
merged_few (l ∷ ls) = omega arith

abbrev plain_part : ℕ → Leaf → Part Leaf
plain_part n leaf = record { number = n; key = None; item = leaf }

one_part : (n : ℕ) (u : TypeId) (w : Option ℕ) (rs : List WireRecord) (ps : List (Part Leaf)) → content (field_of n presences.Explicit (elements.Message u) w) rs ≡ Some ps → length ps ≤ 1
one_part n u w rs ps h =
    let (ls, read, made) = option_map_some (map (plain_part n)) (option_map (λ rows. last_item presences.Explicit (elements.Message u) (joined rows)) (all_some (map (leaves_in (field_of n presences.Explicit (elements.Message u) w)) rs))) ps h in
    let (rows, leaves, last) = option_map_some (λ (rows : List (List Leaf)). merged (joined rows)) (all_some (map (leaves_in (field_of n presences.Explicit (elements.Message u) w)) rs)) ls read in
    omega (arith, ap length made, ap length last, length-map ls (plain_part n), merged_few (joined rows))

-- all children are shown
all_shown : (hidden : Bool) (n : ℕ) (zs : List Pair) → length (shown is_zero_expected hidden n (map expects (map (old_of n) zs))) ≡ length zs
all_shown hidden n [] = refl
all_shown hidden n (z ∷ zs) = ap length (shown_child hidden n z.key z.test (map expects (map (old_of n) zs))) ∙ ap suc (all_shown hidden n zs)

one_child : (view : View) (child : Reader) (n : ℕ) (p : Presence) (e : Element) (o : Option ℕ) (u : TypeId) (w : Option ℕ) (zs : List Pair)
    → is_field_kept view child (field_of n p e o) (field_of n presences.Explicit (elements.Message u) w) (map (old_of n) zs) ≡ true → length zs ≤ 1
one_child view child n p e o u w zs h =
    let f = field_of n p e o in
    let g = field_of n presences.Explicit (elements.Message u) w in
    let is = shown_parts view child f g (map (old_of n) zs) h in
    let (ps, read, made) = and_then_some (λ (qs : List (Part Leaf)). all_some (map (read_part child (elements.Message u)) qs)) (content g (filter (takes g) (field_records f (map writes (map (old_of n) zs))))) is.parts is.is_read in
    let few = one_part n u w (filter (takes g) (field_records f (map writes (map (old_of n) zs)))) ps read in
    let as_many = all_some-length (read_part child (elements.Message u)) ps is.parts made in
    let long = pointwise_long (λ (x : Part Expected) (y : Part Item). same_key x.key y.key && matches view f g x.item y.item) (shown is_zero_expected (hides_zero f g) n (map expects (map (old_of n) zs))) (shown is_zero_item (hides_zero f g) n is.parts) is.same in
    omega (arith, few, as_many, long, all_shown (hides_zero f g) n zs, shown_few (hides_zero f g) n is.parts)

pub no_key_in : (p : Presence) (key : Option Leaf) → is_map p ≡ false → KeyFits p key → is_some key ≡ false
no_key_in presences.Implicit key is h = ap is_some h
no_key_in presences.Explicit key is h = ap is_some h
no_key_in (presences.Repeated packed) key is h = ap is_some h
no_key_in (presences.Map k) key is h = absurd (cc)

pub key_in_map : (k : Scalar) (key : Option Leaf) → KeyFits (presences.Map k) key → is_some key ≡ true
key_in_map k None h = absurd h
key_in_map k (Some l) h = refl

pub differ : true ≡ false → ⊥
differ h = cc

module _ (view : View) (child : Reader) (n : ℕ) (t u : TypeId) (o w : Option ℕ) where
  abbrev old_field : Presence → FieldShape
  old_field p = field_of n p (elements.Message t) o

  abbrev new_field : Presence → FieldShape
  new_field q = field_of n q (elements.Message u) w

  abbrev AllGood : Presence → Presence → List Pair → Type 0
  AllGood p q zs = AllByRecursion (IsGood view child (old_field p) (new_field q)) zs

  single_again : (p : Presence) → PresenceFits p (elements.Message t) o → is_map p ≡ false → (zs : List Pair) → AllGood p presences.Explicit zs → length zs ≤ 1 → is_field_kept view child (old_field p) (new_field presences.Explicit) (map (old_of n) zs) ≡ true
      → is_field_kept view child (old_field p) (new_field presences.Explicit) (map (new_of n) zs) ≡ true
  single_again p fits no_map [] good few kept = kept
  single_again p fits no_map (z ∷ []) good few kept = kept_from_content n t u view child p presences.Explicit o w fits no_map refl (z ∷ []) good (one_content n t u w z)
  single_again p fits no_map (z ∷ y ∷ zs) good few kept = absurd (omega arith)

  -- neither is a map
  plain_again : (p q : Presence) → PresenceFits p (elements.Message t) o → PresenceFits q (elements.Message u) w → is_map p ≡ false → is_map q ≡ false → (zs : List Pair) → AllGood p q zs → is_field_kept view child (old_field p) (new_field q) (map (old_of n) zs) ≡ true
      → is_field_kept view child (old_field p) (new_field q) (map (new_of n) zs) ≡ true
  plain_again p presences.Implicit fits new_fits no_map is zs good kept = absurd new_fits
  plain_again p presences.Explicit fits new_fits no_map is zs good kept =
      single_again p fits no_map zs good (one_child view child n p (elements.Message t) o u w zs kept) kept
  plain_again p (presences.Repeated packed) fits new_fits no_map is zs good kept =
      kept_from_content n t u view child p (presences.Repeated packed) o w fits no_map refl zs good (list_content n t u packed w zs)
  plain_again p (presences.Map key) fits new_fits no_map is zs good kept = absurd (differ is)

  keyed : (key new_key : Scalar) (z : Pair) → KeyFits (presences.Map key) z.key → HasKey view child n t u key new_key o w z
  keyed key new_key z fits = of z.key refl fits
    where
      of : (k : Option Leaf) → z.key ≡ k → KeyFits (presences.Map key) k → HasKey view child n t u key new_key o w z
      of None is h = absurd h
      of (Some l) is h = record { key = l; key_is = is; in_range = subst (λ x. InRange (form (elements.Scalar key)) x) (sym (ap (λ x. unwrap_or x (zero_leaf (form (elements.Scalar key)))) is)) h }

  abbrev RiseIn : Presence → List Pair → Type 0
  RiseIn p zs = (key : Scalar) → p ≡ presences.Map key → EntriesRise (map (λ (z : Pair). (key_or key z, Bytes z.after)) zs)

  map_again : (key : Scalar) (q : Presence) (z : Pair) (zs : List Pair) → AllGood (presences.Map key) q (z ∷ zs) → RiseIn (presences.Map key) (z ∷ zs) → is_map q ≡ true
      → is_field_kept view child (old_field (presences.Map key)) (new_field q) (map (new_of n) (z ∷ zs)) ≡ true
  map_again key presences.Implicit z zs good rise is = absurd (differ (sym is))
  map_again key presences.Explicit z zs good rise is = absurd (differ (sym is))
  map_again key (presences.Repeated packed) z zs good rise is = absurd (differ (sym is))
  map_again key (presences.Map new_key) z zs good rise is =
      maps_kept view child n t u key new_key o w (z ∷ zs)
      (each_weaker (IsGood view child (old_field (presences.Map key)) (new_field (presences.Map new_key))) (λ x. IsGood view child (old_field (presences.Map key)) (new_field (presences.Map new_key)) x × HasKey view child n t u key new_key o w x)
      (λ x h. (h, keyed key new_key x h.key_fits)) (z ∷ zs) good) (rise key refl)

  children_again : (p q : Presence) → PresenceFits p (elements.Message t) o → PresenceFits q (elements.Message u) w → (z : Pair) (zs : List Pair) → AllGood p q (z ∷ zs) → is_field_kept view child (old_field p) (new_field q) (map (old_of n) (z ∷ zs)) ≡ true → RiseIn p (z ∷ zs)
      → is_some z.key ≡ is_map q → is_field_kept view child (old_field p) (new_field q) (map (new_of n) (z ∷ zs)) ≡ true
  children_again presences.Implicit q fits new_fits z zs good kept rise kind = absurd fits
  children_again presences.Explicit q fits new_fits z zs good kept rise kind =
      plain_again presences.Explicit q fits new_fits refl (sym kind ∙ no_key_in presences.Explicit z.key refl good.0.key_fits) (z ∷ zs) good kept
  children_again (presences.Repeated packed) q fits new_fits z zs good kept rise kind =
      plain_again (presences.Repeated packed) q fits new_fits refl (sym kind ∙ no_key_in (presences.Repeated packed) z.key refl good.0.key_fits) (z ∷ zs) good kept
  children_again (presences.Map key) q fits new_fits z zs good kept rise kind =
      map_again key q z zs good rise (sym kind ∙ key_in_map key z.key good.0.key_fits)

-- The field is kept.
pub field_again : (view : View) (child : Reader) (n : ℕ) (t : TypeId) (p q : Presence) (e : Element) (o w : Option ℕ) → PresenceFits p (elements.Message t) o → PresenceFits q e w → (zs : List Pair)
    → AllByRecursion (IsGood view child (field_of n p (elements.Message t) o) (field_of n q e w)) zs
    → is_field_kept view child (field_of n p (elements.Message t) o) (field_of n q e w) (map (old_of n) zs) ≡ true
    → ((key : Scalar) → p ≡ presences.Map key → EntriesRise (map (λ (z : Pair). (key_or key z, Bytes z.after)) zs))
    → is_field_kept view child (field_of n p (elements.Message t) o) (field_of n q e w) (map (new_of n) zs) ≡ true
field_again view child n t p q e o w fits new_fits [] good kept rise = kept
field_again view child n t p q (elements.Scalar s) o w fits new_fits (z ∷ zs) good kept rise =
    absurd (differ (sym (kept_kinds view child (field_of n p (elements.Message t) o) (field_of n q (elements.Scalar s) w) z good.0.single).1))
field_again view child n t p q (elements.Enum s) o w fits new_fits (z ∷ zs) good kept rise =
    absurd (differ (sym (kept_kinds view child (field_of n p (elements.Message t) o) (field_of n q (elements.Enum s) w) z good.0.single).1))
field_again view child n t p q (elements.Message u) o w fits new_fits (z ∷ zs) good kept rise =
    children_again view child n t u o w p q fits new_fits z zs good kept rise (kept_kinds view child (field_of n p (elements.Message t) o) (field_of n q (elements.Message u) w) z good.0.single).0
