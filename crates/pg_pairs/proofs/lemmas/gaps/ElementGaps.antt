-- The gap between elements that are no messages, and which items aren't seen.
use Rattle.std.proofs.Common.{◌≡◌, pos, true, refl, rules}
use Rattle.pg_schema.specs.declared.parts.field.Element.{Element}
use Rattle.pg_schema.specs.declared.parts.field.Element.TheVariants as elements
use Rattle.pg_dyn.specs.message.Message.{Leaf, Int, is_zero}
use Rattle.pg_dyn.specs.word.Coding.{Form, Integer, Single, Double, Text, Raw, form, zero_leaf, InRange}
use Rattle.pg_dyn.specs.views.Comparison.{View, alike_leaves}
use Rattle.pg_pairs.specs.gaps.Likeness.{like_forms, like}
use Rattle.pg_pairs.specs.gaps.TrueGaps.{is_seen}
use Rattle.pg_pairs.specs.laws.ElementGaps.{IsNoMessage, FindsZeroAlike, ElementGaps, UnseenAreNotZero}
use Rattle.pg_pairs.proofs.lemmas.gaps.GapItems.{IsLeafy, gap_item_is}
use Rattle.pg_pairs.proofs.lemmas.gaps.Leaves.{seen_from}
use Rattle.pg_dyn.proofs.PublicLaws.{equal_leaves}
use Rattle.pg_pairs.proofs.lemmas.gaps.Likeness.{like_wire}
use Rattle.pg_pairs.proofs.lemmas.gaps.Zeros.{zero_by_form, zero_across}

leafy : (e : Element) → IsNoMessage e → IsLeafy e
leafy (elements.Message t) h = absurd h
leafy (elements.Scalar s) h = tt
leafy (elements.Enum e) h = tt

pub element_gaps : ElementGaps
element_gaps enum_view law zero old new no_message is_like = gap_item_is enum_view law zero old new (leafy old no_message) is_like

like_zeros : (a b : Form) → like_forms a b ≡ true → zero_leaf a ≡ zero_leaf b
like_zeros (Integer a) (Integer b) h = refl
like_zeros Single Single h = refl
like_zeros Double Double h = refl
like_zeros Text Text h = refl
like_zeros Text Raw h = refl
like_zeros Raw Text h = refl
like_zeros Raw Raw h = refl
like_zeros a b h = absurd (cc)

forms_like : (old new : Element) → IsNoMessage old → like old new ≡ true → like_forms (form old) (form new) ≡ true
forms_like (elements.Message s) new no_message h = absurd no_message
forms_like (elements.Scalar s) (elements.Message t) no_message h = absurd (cc)
forms_like (elements.Enum s) (elements.Message t) no_message h = absurd (cc)
forms_like (elements.Scalar s) (elements.Scalar t) no_message h = h
forms_like (elements.Scalar s) (elements.Enum t) no_message h = h
forms_like (elements.Enum s) (elements.Scalar t) no_message h = h
forms_like (elements.Enum s) (elements.Enum t) no_message h = h

-- zero is alike to itself, of two enums where the view says so
alike_zero : (view : View) (old new : Element) → FindsZeroAlike view old new → alike_leaves view old new (zero_leaf (form new)) (zero_leaf (form new)) ≡ true
alike_zero view (elements.Enum s) (elements.Enum t) alike = rw alike ((equal_leaves (Int (pos 0)) (Int (pos 0))).1 refl)
alike_zero view (elements.Enum s) (elements.Scalar t) alike = let zero = zero_leaf (form (elements.Scalar t)) in (equal_leaves zero zero).1 refl
alike_zero view (elements.Enum s) (elements.Message t) alike = let zero = zero_leaf (form (elements.Message t)) in (equal_leaves zero zero).1 refl
alike_zero view (elements.Scalar s) new alike = let zero = zero_leaf (form new) in (equal_leaves zero zero).1 refl
alike_zero view (elements.Message s) new alike = let zero = zero_leaf (form new) in (equal_leaves zero zero).1 refl

module _ (view : View) (old new : Element) (alike : FindsZeroAlike view old new) (no_message : IsNoMessage old) (is_like : like old new ≡ true) where
  -- like elements have one zero item and write it alike
  zero_seen : (item : Leaf) → InRange (form old) item → is_zero item ≡ true → is_seen view old new item ≡ true
  zero_seen item range zero =
      search (rules, like_wire, zero_by_form, like_zeros, forms_like, seen_from, zero_across, alike_zero)

pub unseen_are_not_zero : UnseenAreNotZero
unseen_are_not_zero view old new alike no_message is_like item range unseen =
    search (rules, zero_seen)
