-- What a view keeps is kept by number: a view only tells more items apart.
use Rattle.std.proofs.Common.{◌≡◌, ℕ, ℤ, List, [], ◌∷◌, Bool, true, false, not, ◌&&◌, cond, nat_eq, Option, Some, None, refl, sym, ◌∙◌, subst, true≢false, rules, arith}
use Rattle.std.specs.Bool.{⊤}
use Rattle.std.specs.List.{list_all}
use Rattle.std.proofs.lemmas.Bool.{and_from, and_parts, false_from_ne_true}
use lib.Pointwise.{pointwise}
use Rattle.pg_schema.specs.declared.parts.enum_type.EnumType.{EnumType}
use Rattle.pg_schema.specs.declared.parts.field.Element.{Element}
use Rattle.pg_schema.specs.declared.parts.field.TypeId.{TypeId}
use Rattle.pg_schema.specs.declared.parts.Parts.{Parts}
use Rattle.pg_schema.specs.Parts.{enum_at, shape_of}
use Rattle.pg_schema.specs.Shape.{Shape, FieldShape, fields, field_at}
use Rattle.pg_dyn.specs.declared.view_name.ViewName.TheVariants as names
use Rattle.pg_dyn.specs.message.Message.{Leaf, Item, Message, ends, holds, nests, Part}
use Rattle.pg_dyn.specs.encoding.Encoding.{child_type, enc}
use Rattle.pg_dyn.specs.reading.Decoding.{dec}
use Rattle.pg_dyn.specs.views.Comparison.{View, numbers, Expected, Alike, Kept, is_zero_expected, hides_zero, shown, alike_leaves, same_key, matches, same_message, unshared_bytes, expected, same}
use Rattle.pg_dyn.specs.views.Breaking.{is_kept, Compatible}
use Rattle.pg_dyn.specs.views.ViewNames.{alike_there, view_named, KeptByNumber, NamesAreStricter, NamedRows}

by_option : {A P : Type 0} (o : Option A) → (o ≡ None → P) → ((x : A) → o ≡ Some x → P) → P
by_option None none some = none refl
by_option (Some x) none some = some x refl

each_weaker_test : {A : Type 0} (p q : A → Bool) (xs : List A) → list_all p xs ≡ true → ((x : A) → p x ≡ true → q x ≡ true) → list_all q xs ≡ true
each_weaker_test p q [] h weaker = refl
each_weaker_test p q (x ∷ xs) h weaker =
    search (rules, and_parts, and_from, each_weaker_test p q xs)

alike_by_number : (view : View) (e g : Element) (a b : Leaf) → alike_leaves view e g a b ≡ true → alike_leaves numbers e g a b ≡ true
alike_by_number view e g a b h = grind (arith, and_from, and_parts)

module _ (view : View) (f g : FieldShape) where
  abbrev part_matches : View → Part Expected → Part Item → Bool
  part_matches by p q = same_key p.key q.key && matches by f g p.item q.item

  leaf_met : (number : ℕ) (key : Option Leaf) (leaf : Leaf) (q : Part Item) →
      part_matches view (record { number = number; key = key; item = Alike leaf }) q ≡ true → part_matches numbers (record { number = number; key = key; item = Alike leaf }) q ≡ true
  leaf_met number key leaf q h = search (rules, and_parts, and_from, alike_by_number)

  child_met : (number : ℕ) (key : Option Leaf) (test other : Message → Bool) → ((m : Message) → test m ≡ true → other m ≡ true) → (q : Part Item) →
      part_matches view (record { number = number; key = key; item = Kept test }) q ≡ true → part_matches numbers (record { number = number; key = key; item = Kept other }) q ≡ true
  child_met number key test other weaker q h = search (rules, and_parts, and_from)

  -- one part more, on the old side
  one_more : (p r : Part Expected) (ps rs : List (Part Expected)) (w : List (Part Item)) → ((q : Part Item) → part_matches view p q ≡ true → part_matches numbers r q ≡ true) →
      ((w : List (Part Item)) → pointwise (part_matches view) ps w ≡ true → pointwise (part_matches numbers) rs w ≡ true) →
      pointwise (part_matches view) (p ∷ ps) w ≡ true → pointwise (part_matches numbers) (r ∷ rs) w ≡ true
  one_more p r ps rs w first later h = grind (arith, and_parts, pointwise, and_from)

module _ (view : View) (old new : Shape) where
  -- the new type shows in w what the old one holds in v
  abbrev shows : View → TypeId → TypeId → Message → Message → Bool
  shows by a b v w = same_message by (fields old a) (fields new b) (expected by old new a b v) (unshared_bytes old a (fields new b) v) w

  abbrev IsStricter : TypeId → TypeId → Message → Type 0
  IsStricter a b v = (w : Message) → shows view a b v w ≡ true → shows numbers a b v w ≡ true

  abbrev ChildrenStricter : TypeId → TypeId → Message → Type 0
  ChildrenStricter a b (ends unknown) = ⊤
  ChildrenStricter a b (holds number key leaf later) = ChildrenStricter a b later
  ChildrenStricter a b (nests number key child later) =
      IsStricter (child_type (fields old a) number) (child_type (fields new b) number) child × ChildrenStricter a b later

  module _ (a b : TypeId) (f g : FieldShape) (hidden : Bool) (n : ℕ) where
    content_met : (v : Message) → ChildrenStricter a b v → (w : List (Part Item)) →
        pointwise (part_matches view f g view) (shown is_zero_expected hidden n (expected view old new a b v)) w ≡ true →
        pointwise (part_matches view f g numbers) (shown is_zero_expected hidden n (expected numbers old new a b v)) w ≡ true
    content_met (ends unknown) children = λ w h. h
    content_met (holds number key leaf later) children =
        search (
          rules,
          pointwise (part_matches view f g view),
          pointwise (part_matches view f g numbers),
          one_more view f g,
          leaf_met view f g number key leaf,
          content_met later children,
        )
    content_met (nests number key child later) children = λ w.
        let test = shows view (child_type (fields old a) number) (child_type (fields new b) number) child in
        let other = shows numbers (child_type (fields old a) number) (child_type (fields new b) number) child in
        let part : Part Expected = record { number = number; key = key; item = Kept test } in
        let counterpart : Part Expected = record { number = number; key = key; item = Kept other } in
        let ps = shown is_zero_expected hidden n (expected view old new a b later) in
        let rs = shown is_zero_expected hidden n (expected numbers old new a b later) in
        elim (nat_eq number n && not (hidden && false)) as (λ t. pointwise (part_matches view f g view) (cond t (part ∷ ps) ps) w ≡ true → pointwise (part_matches view f g numbers) (cond t (counterpart ∷ rs) rs) w ≡ true) [
          | true ↦ one_more view f g part counterpart ps rs w (child_met view f g number key test other children.0) (content_met later children.1)
          | false ↦ content_met later children.1 w
        ]

  from_children : (a b : TypeId) (v : Message) → ChildrenStricter a b v → IsStricter a b v
  from_children a b v children w h =
      let both = and_parts _ _ h in
      and_from _ _
      (each_weaker_test _ _ (fields old a) both.0
      (λ (f : FieldShape) there. by_option (field_at (fields new b) f.number) (λ none. rw none refl) (λ (g : FieldShape) some. rw some (content_met a b f g (hides_zero f g) f.number v children _ (rw some at there)))))
      both.1

  children_stricter : (a b : TypeId) (v : Message) → ChildrenStricter a b v
  children_stricter a b (ends unknown) = tt
  children_stricter a b (holds number key leaf later) = children_stricter a b later
  children_stricter a b (nests number key child later) =
      let of_old = child_type (fields old a) number in
      let of_new = child_type (fields new b) number in
      (from_children of_old of_new child (children_stricter of_old of_new child), children_stricter a b later)

  same_by_number : (a b : TypeId) (v w : Message) → same view old new a b v w ≡ true → same numbers old new a b v w ≡ true
  unfolding same
  same_by_number a b v w h = from_children a b v (children_stricter a b v) w h

pub kept_by_number : KeptByNumber
unfolding is_kept
kept_by_number view old new a b v h =
    by_option (dec new b (enc old a v)) (λ none. absurd (true≢false (sym (rw none at h)))) (λ (w : Message) some. rw some (same_by_number view old new a b v w (rw some at h)))

compatible_by_number : (view : View) (old new : Shape) (a b : TypeId) → Compatible view old new a b → Compatible numbers old new a b
compatible_by_number view old new a b compatible v breaks =
    search (
      rules,
      false_from_ne_true (is_kept view old new a b v) (λ kept. true≢false (sym (kept_by_number view old new a b v kept) ∙ breaks.not_kept)),
      true≢false,
    )

-- The view by number.

all_alike : (old new : Option EnumType) (n : ℤ) → alike_there names.Numbers old new n ≡ true
all_alike old new n = grind arith

numbers_view : (old new : Parts) → view_named names.Numbers old new ≡ numbers
numbers_view old new = λ j. λ a b n. all_alike (enum_at old a) (enum_at new b) n j

pub names_are_stricter : NamesAreStricter
names_are_stricter old new a b compatible =
    subst (λ view. Compatible view (shape_of old) (shape_of new) a b) (sym (numbers_view old new))
    (compatible_by_number (view_named names.Names old new) (shape_of old) (shape_of new) a b compatible)

-- The worked rows, by computation.

pub named_rows : NamedRows
named_rows = ((refl, refl, refl), (refl, refl), refl, (refl, refl), (refl, refl))
