-- A type reads in its own messages just what was written.
use Rattle.std.proofs.Common.{◌≡◌, ℕ, ◌^◌, ◌<◌, List, [], ◌∷◌, length, Bool, true, false, ◌&&◌, nat_eq, Option, Some, None, is_none, refl, ap, ap₂, sym, ◌∙◌, arith, eq-eqb, int_eq, true≢false, rules}
use Rattle.std.specs.Bool.{⊤}
use Rattle.std.specs.Str.{bytes_eq}
use Rattle.std.proofs.lemmas.Bool.{and_from}
use lib.Pointwise.{pointwise}
use Rattle.pg_schema.specs.declared.parts.field.TypeId.{TypeId}
use Rattle.pg_schema.specs.declared.parts.field.Element.{Element}
use Rattle.pg_schema.specs.declared.parts.field.Element.TheVariants as elements
use Rattle.pg_schema.specs.Shape.{Shape, FieldShape, fields, field_at}
use Rattle.pg_schema.specs.ShapeRules.{IsShape}
use Rattle.pg_dyn.specs.message.Message.{Leaf, Int, F32, F64, Bytes, Item, Message, ends, holds, nests, Part, parts, unknown_of, IsPlain}
use Rattle.pg_dyn.specs.encoding.Writing.{records_in, bytes_of}
use Rattle.pg_dyn.specs.encoding.Encoding.{child_type, encoded_parts, enc}
use Rattle.pg_dyn.specs.views.Comparison.{numbers, Expected, is_zero_expected, is_zero_item, hides_zero, shown, alike_leaves, same_key, matches, outside, records_outside, same_message, unshared_bytes, expected, same}
use Rattle.pg_dyn.specs.views.Breaking.{is_kept, Compatible}
use Rattle.pg_dyn.proofs.Lists.{each_weaker, filter_none, list_all_each}
use Rattle.pg_dyn.proofs.lemmas.reading.records.Splitting.{each_found}
use Rattle.pg_dyn.proofs.lemmas.fitting.Belonging.{fields-IsType}
use Rattle.pg_dyn.proofs.lemmas.laws.Again.{reads_again}
use Rattle.pg_dyn.proofs.lemmas.word.Leaves.{leaf_eq_self}

pub bytes_eq_self : (bytes : List ℕ) → bytes_eq bytes bytes ≡ true
bytes_eq_self [] = refl
bytes_eq_self (b ∷ bytes) = and_from (nat_eq b b) (bytes_eq bytes bytes) (eq-eqb b b refl) (bytes_eq_self bytes)

same_key_self : (key : Option Leaf) → same_key key key ≡ true
same_key_self None = refl
same_key_self (Some k) = leaf_eq_self k

alike_self : (e : Element) (leaf : Leaf) → alike_leaves numbers e e leaf leaf ≡ true
alike_self (elements.Scalar s) leaf = leaf_eq_self leaf
alike_self (elements.Message t) leaf = leaf_eq_self leaf
alike_self (elements.Enum e) (Int n) = and_from (int_eq n n) true (leaf_eq_self (Int n)) refl
alike_self (elements.Enum e) (F32 bits) = leaf_eq_self (F32 bits)
alike_self (elements.Enum e) (F64 bits) = leaf_eq_self (F64 bits)
alike_self (elements.Enum e) (Bytes bytes) = leaf_eq_self (Bytes bytes)

pub plain_unknown : (v : Message) → IsPlain v → unknown_of v ≡ []
plain_unknown (ends []) h = refl
plain_unknown (ends (r ∷ rs)) h = absurd h
plain_unknown (holds number key leaf later) h = plain_unknown later h
plain_unknown (nests number key child later) h = plain_unknown later h.1

module _ (shape : Shape) where
  -- what the type asks of a message of its own
  abbrev IsSame : TypeId → Message → Type 0
  IsSame type v = same_message numbers (fields shape type) (fields shape type) (expected numbers shape shape type type v) (unshared_bytes shape type (fields shape type) v) v ≡ true

  abbrev ChildrenSame : TypeId → Message → Type 0
  ChildrenSame type (ends unknown) = ⊤
  ChildrenSame type (holds number key leaf later) = ChildrenSame type later
  ChildrenSame type (nests number key child later) = IsSame (child_type (fields shape type) number) child × ChildrenSame type later

  module _ (type : TypeId) (f : FieldShape) (hidden : Bool) (n : ℕ) where
    abbrev part_matches : Part Expected → Part Item → Bool
    part_matches p q = same_key p.key q.key && matches numbers f f p.item q.item

    content_same : (v : Message) → ChildrenSame type v → pointwise part_matches (shown is_zero_expected hidden n (expected numbers shape shape type type v)) (shown is_zero_item hidden n (parts v)) ≡ true
    content_same (ends unknown) h = refl
    content_same (holds number key leaf later) h =
        search (rules, pointwise, and_from, same_key_self, alike_self, content_same later h)
    content_same (nests number key child later) h =
        search (rules, pointwise, and_from, same_key_self, content_same later h.1)

  same_from_children : (type : TypeId) (v : Message) → IsShape shape → IsPlain v → ChildrenSame type v → IsSame type v
  same_from_children type v is_shape plain children =
      let rising = (fields-IsType shape type is_shape).rising in
      let each = each_found (fields shape type) rising in
      let none_outside : outside (fields shape type) (fields shape type) ≡ [] =
      filter_none (λ (f : FieldShape). is_none (field_at (fields shape type) f.number)) (fields shape type)
      (each_weaker (λ (f : FieldShape). field_at (fields shape type) f.number ≡ Some f) (λ f. is_none (field_at (fields shape type) f.number) ≡ false) (λ f found. rw found refl) (fields shape type) each) in
      let written : unshared_bytes shape type (fields shape type) v ≡ [] = ap (λ fs. bytes_of (records_in fs (encoded_parts shape type v))) none_outside in
      let read : bytes_of (records_outside (fields shape type) (unknown_of v)) ≡ [] = ap (λ rs. bytes_of (records_outside (fields shape type) rs)) (plain_unknown v plain) in
      and_from _ _
      (list_all_each _ (fields shape type)
      (each_weaker (λ (f : FieldShape). field_at (fields shape type) f.number ≡ Some f) _ (λ f found. rw found (content_same type f (hides_zero f f) f.number v children)) (fields shape type) each))
      (ap₂ bytes_eq read written)

  children_same : (type : TypeId) (v : Message) → IsShape shape → IsPlain v → ChildrenSame type v
  children_same type (ends unknown) is_shape plain = tt
  children_same type (holds number key leaf later) is_shape plain = children_same type later is_shape plain
  children_same type (nests number key child later) is_shape plain =
      let of = child_type (fields shape type) number in
      (same_from_children of child is_shape plain.0 (children_same of child is_shape plain.0), children_same type later is_shape plain.1)

  -- A type is compatible with itself.
  pub self_compatible : (type : TypeId) → IsShape shape → Compatible numbers shape shape type type
  unfolding is_kept same
  self_compatible type is_shape v breaks =
      let short : length (enc shape type v) < 2 ^ 64 = let fits = breaks.has_encoding in omega arith in
      let read = reads_again shape type v is_shape breaks.is_message short in
      let kept : is_kept numbers shape shape type type v ≡ true = rw read (same_from_children type v is_shape breaks.is_plain (children_same type v is_shape breaks.is_plain)) in
      let broken = breaks.not_kept in
      true≢false (sym kept ∙ broken)
