-- A field that the new type lacks is read back as it was.
use Rattle.std.proofs.Common.{◌≡◌, ℕ, List, ◌∷◌, Bool, true, false, nat_eq, ◌&&◌, None, is_some, refl, ap, ◌∙◌, eqb-true, eq-eqb, rules}
use Rattle.std.specs.Str.{bytes_eq}
use Rattle.std.proofs.lemmas.Bool.{and_from}
use lib.Pointwise.{pointwise}
use Rattle.pg_schema.specs.declared.parts.field.TypeId.{TypeId}
use Rattle.pg_schema.specs.Shape.{Shape, FieldShape, fields, field_at}
use Rattle.pg_dyn.specs.message.Message.{Bytes, Item, Message, ends, holds, nests, Part, parts}
use Rattle.pg_dyn.specs.encoding.Writing.{bytes_of}
use Rattle.pg_dyn.specs.views.Comparison.{Expected, numbers, is_zero_expected, is_zero_item, same_key, matches, shown}
use Rattle.pg_pairs.specs.home.Home.{home_content, homeward, message_eq}
use Rattle.pg_dyn.proofs.PublicLaws.{equal_leaves}
use Rattle.pg_pairs.proofs.lemmas.home.Returned.{alike_self}
use Rattle.pg_pairs.proofs.lemmas.bounds.Across.{same_key_refl}

number_self : (n : ℕ) → nat_eq n n ≡ true
number_self n = eq-eqb n n refl

bytes_self : (bytes : List ℕ) → bytes_eq bytes bytes ≡ true
bytes_self bytes = (equal_leaves (Bytes bytes) (Bytes bytes)).1 refl

-- a message is equal to itself
pub message_self : (m : Message) → message_eq m m ≡ true
message_self (ends unknown) = bytes_self (bytes_of unknown)
message_self (holds n k a later) = rw (number_self n, same_key_refl k, (equal_leaves a a).1 refl, message_self later) refl
message_self (nests n k child later) = rw (number_self n, same_key_refl k, message_self child, message_self later) refl

module _ (old new : Shape) (a b : TypeId) (f : FieldShape) (lacks : field_at (fields new b) f.number ≡ None) where
  abbrev R : Part Expected → Part Item → Bool
  R p q = same_key p.key q.key && matches numbers f f p.item q.item

  -- a part of the field, or of another
  one_more : (x : Part Expected) (y : Part Item) (xs : List (Part Expected)) (ys : List (Part Item)) → x.number ≡ y.number → (x.number ≡ f.number → R x y ≡ true) → pointwise R (shown is_zero_expected false f.number xs) (shown is_zero_item false f.number ys) ≡ true → pointwise R (shown is_zero_expected false f.number (x ∷ xs)) (shown is_zero_item false f.number (y ∷ ys)) ≡ true
  one_more x y xs ys same related rest = search (rules, pointwise, and_from, eqb-true)

  -- the test of a child there is whether the message is equal
  lacking : (number : ℕ) → number ≡ f.number → is_some (field_at (fields new b) number) ≡ false
  lacking number same = ap is_some (ap (field_at (fields new b)) same ∙ lacks)

  all_shown : (v : Message) → pointwise R (shown is_zero_expected false f.number (homeward old new a b v)) (shown is_zero_item false f.number (parts v)) ≡ true
  all_shown (ends unknown) = refl
  all_shown (holds number key leaf later) =
      search (rules, all_shown later, one_more, and_from, same_key_refl, alike_self)
  all_shown (nests number key child later) =
      search (rules, all_shown later, one_more, is_some, and_from, same_key_refl, lacking, message_self)

  -- the field's own parts return
  pub outside_home : (v : Message) → home_content f None (homeward old new a b v) (parts v) ≡ true
  outside_home v = all_shown v
