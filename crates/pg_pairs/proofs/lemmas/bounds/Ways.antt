-- How a content passes between two fields of one number, either way: what is read of it where each item is.
use Rattle.std.proofs.Common.{◌≡◌, ℕ, List, [], ◌∷◌, map, true, false, ◌||◌, Option, None, ◌⊎◌, refl, rules}
use Rattle.std.specs.List.{AllByRecursion}
use Rattle.pg_schema.specs.declared.parts.field.Scalar.{Scalar}
use Rattle.pg_schema.specs.declared.parts.field.Element.{Element}
use Rattle.pg_schema.specs.declared.parts.field.Element.TheVariants as elements
use Rattle.pg_schema.specs.declared.parts.field.Presence.{Presence}
use Rattle.pg_schema.specs.declared.parts.field.Presence.TheVariants as presences
use Rattle.pg_schema.specs.Shape.{FieldShape, is_singular, is_implicit, is_repeated, is_packable}
use Rattle.pg_dyn.specs.message.Message.{is_zero}
use Rattle.pg_dyn.specs.word.Coding.{form, InRange}
use Rattle.pg_dyn.specs.reading.Content.{last_item}
use Rattle.pg_dyn.specs.encoding.Writing.{is_packed, key_of}
use Rattle.pg_dyn.specs.reading.Decoding.{Reader}
use Rattle.pg_dyn.specs.fitting.Belonging.{MayBeZero}
use Rattle.pg_dyn.specs.views.Comparison.{View, Comparand, writes}
use Rattle.pg_dyn.proofs.Lists.{each_both}
use Rattle.pg_pairs.specs.gaps.Likeness.{like}
use Rattle.pg_pairs.specs.laws.ReadBack.{is_bool_of_zigzag}
use Rattle.pg_pairs.specs.inner.Contents.{IsAtMostOne, RisingKeys}
use Rattle.pg_pairs.proofs.lemmas.gaps.Likeness.{like_wire}
use Rattle.pg_pairs.proofs.lemmas.gaps.GapItems.{IsLeafy}
use Rattle.pg_pairs.proofs.lemmas.bounds.Across.{Seen, Across}
use Rattle.pg_pairs.proofs.lemmas.bounds.AcrossPlain.{IsNoMap, IsUnpacked, not_map, Sits, across_unpacked, across_packed}
use Rattle.pg_pairs.proofs.lemmas.bounds.AcrossMap.{SeenEntry, is_map, across_map}
use Rattle.pg_pairs.proofs.lemmas.bounds.Comparands.{unpacked_implicit, unpacked_explicit, unpacked_repeated, packed_list}
use Rattle.pg_dyn.proofs.PublicLaws.{last_items}

-- comparands that a field which is no map may hold, with what the field of these presences does of them
pub record Passes (p q : Presence) (e : Element) (cs : List Comparand) : Type 0 where
  pub no_key : AllByRecursion (λ (c : Comparand). c.key ≡ None) cs
  pub may_be_zero : AllByRecursion (λ (c : Comparand). MayBeZero q c.written) cs
  pub one : is_singular q ≡ true → IsAtMostOne cs
  pub unpacked : is_packed p ≡ true → is_repeated q ≡ true
  pub packable : is_packed p ≡ true → is_packable e ≡ true

module _ (view : View) (child : Reader) (number : ℕ) (e d : Element) (o r : Option ℕ) (is_like : like e d ≡ true) where
  abbrev old : Presence → FieldShape
  old p = record { number = number; presence = p; element = e; oneof = o }

  abbrev new : Presence → FieldShape
  new q = record { number = number; presence = q; element = d; oneof = r }

  sits : (q : Presence) (cs : List Comparand) → AllByRecursion (λ (c : Comparand). c.key ≡ None) cs → AllByRecursion (λ (c : Comparand). MayBeZero q c.written) cs → AllByRecursion (Sits (new q)) cs
  sits q [] no_key may = tt
  sits q (c ∷ cs) no_key may = (record { no_key = no_key.0; may_be_zero = may.0 }, sits q cs no_key.1 may.1)

  taken_one : (p q : Presence) (cs : List Comparand) → IsAtMostOne cs → AllByRecursion (Seen view child (old p) (new q)) cs → AllByRecursion (λ (c : Comparand). MayBeZero q c.written) cs → last_item q d (map (λ (c : Comparand). c.written) cs) ≡ map (λ (c : Comparand). c.written) cs
  taken_one p q [] one seen may = last_items.0 q d
  taken_one p q (c ∷ []) one seen may = last_items.1 q d c.written may.0 seen.0.nested
  taken_one p q (c ∷ c' ∷ cs) one seen may = absurd one

  module _ (p : Presence) (unpacked : IsUnpacked (old p)) where
    by_records : (q : Presence) → IsNoMap q → (cs : List Comparand) → AllByRecursion (Seen view child (old p) (new q)) cs → Passes p q e cs → Across child (old p) (new q) cs
    by_records presences.Implicit no_q cs seen passes =
        search (rules, across_unpacked, like_wire, not_map, sits, taken_one)
    by_records presences.Explicit no_q cs seen passes =
        search (rules, across_unpacked, like_wire, not_map, sits, taken_one)
    by_records (presences.Repeated w) no_q cs seen passes =
        search (rules, across_unpacked, like_wire, not_map, sits)
    by_records (presences.Map l) no_q cs seen passes = absurd no_q

  pub plain_across : (p q : Presence) → IsNoMap p → IsNoMap q → (cs : List Comparand) → AllByRecursion (Seen view child (old p) (new q)) cs → Passes p q e cs → Across child (old p) (new q) cs
  plain_across presences.Implicit q no_p no_q cs seen passes = by_records presences.Implicit (unpacked_implicit number e o) q no_q cs seen passes
  plain_across presences.Explicit q no_p no_q cs seen passes = by_records presences.Explicit (unpacked_explicit number e o) q no_q cs seen passes
  plain_across (presences.Repeated false) q no_p no_q cs seen passes = by_records (presences.Repeated false) (unpacked_repeated number e o) q no_q cs seen passes
  plain_across (presences.Repeated true) q no_p no_q cs seen passes =
      search (rules, across_packed, like_wire, not_map, packed_list, sits)
  plain_across (presences.Map k) q no_p no_q cs seen passes = absurd no_p

  pub map_across : (k l : Scalar) → like (elements.Scalar k) (elements.Scalar l) ≡ true → (cs : List Comparand) → AllByRecursion (Seen view child (old (presences.Map k)) (new (presences.Map l))) cs → AllByRecursion (SeenEntry (old (presences.Map k)) k l) cs → RisingKeys k cs → Across child (old (presences.Map k)) (new (presences.Map l)) cs
  map_across k l keys cs seen entries rising =
      across_map view child (old (presences.Map k)) (new (presences.Map l)) k l refl (is_map child (old (presences.Map k)) k refl) (is_map child (new (presences.Map l)) l refl)
      (like_wire (elements.Scalar k) (elements.Scalar l) keys) (like_wire e d is_like) cs (each_both _ _ cs seen entries) rising

-- What both fields have of a content that crosses.

-- one item at most where one of the two is singular, none that is zero where one of them is implicit; beside a packed list is a list
pub record PlainWay (p q : Presence) (cs : List Comparand) : Type 0 where
  pub no_map_old : IsNoMap p
  pub no_map_new : IsNoMap q
  pub no_key : AllByRecursion (λ (c : Comparand). c.key ≡ None) cs
  pub one : (is_singular p || is_singular q) ≡ true → IsAtMostOne cs
  pub not_zero : (is_implicit p || is_implicit q) ≡ true → AllByRecursion (λ (c : Comparand). is_zero c.written ≡ false) cs
  pub unpacked : is_packed p ≡ true → is_repeated q ≡ true

pub record MapWay (f : FieldShape) (p q : Presence) (cs : List Comparand) : Type 0 where
  pub old_key : Scalar
  pub new_key : Scalar
  pub old_is : p ≡ presences.Map old_key
  pub new_is : q ≡ presences.Map new_key
  pub keys_like : like (elements.Scalar old_key) (elements.Scalar new_key) ≡ true
  pub keys_apart : is_bool_of_zigzag (elements.Scalar old_key) (elements.Scalar new_key) ≡ false
  pub in_range : AllByRecursion (λ c. InRange (form (elements.Scalar old_key)) (key_of old_key (writes c))) cs
  pub entries : AllByRecursion (SeenEntry f old_key new_key) cs
  pub rising : RisingKeys old_key cs

-- each item is read across, and of the content the same
pub record Crosses (view : View) (child : Reader) (f g : FieldShape) (cs : List Comparand) : Type 0 where
  pub is_like : like f.element g.element ≡ true
  pub apart : is_bool_of_zigzag f.element g.element ≡ false
  pub seen : AllByRecursion (Seen view child f g) cs
  pub across : Across child f g cs
  pub way : PlainWay f.presence g.presence cs ⊎ MapWay f f.presence g.presence cs

-- one zero, which the new type's implicit field doesn't show
pub record Hides (f g : FieldShape) (cs : List Comparand) : Type 0 where
  pub explicit : f.presence ≡ presences.Explicit
  pub implicit : g.presence ≡ presences.Implicit
  pub leafy : IsLeafy f.element
  pub comparand : Comparand
  pub one : cs ≡ comparand ∷ []
  pub zero : is_zero comparand.written ≡ true
