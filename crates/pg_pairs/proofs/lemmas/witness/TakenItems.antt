-- The items of carried messages are ones of their elements.
use Rattle.std.proofs.Common.{◌≡◌, false, Option, Some, None, option_map, IfSome, Result, Ok, Err, IfOk, refl, ap, sym, ◌∙◌, subst}
use Rattle.pg_schema.specs.declared.parts.field.Element.{Element}
use Rattle.pg_schema.specs.declared.parts.field.Element.TheVariants as elements
use Rattle.pg_schema.specs.declared.parts.field.Presence.{Presence}
use Rattle.pg_schema.specs.declared.parts.field.Presence.TheVariants as presences
use Rattle.pg_schema.specs.declared.parts.field.Scalar.{Scalar}
use Rattle.pg_schema.specs.declared.parts.field.Scalar.TheVariants as scalars
use Rattle.pg_schema.specs.Shape.{is_map}
use Rattle.pg_dyn.specs.declared.message.Value.{Value}
use Rattle.pg_dyn.specs.declared.message.Value.TheVariants as values
use Rattle.pg_dyn.specs.message.Message.{Leaf, Plain}
use Rattle.pg_dyn.specs.word.Coding.{Text, Raw, form, InRange}
use Rattle.pg_dyn.specs.message.Seen.{leaf_of, IsKey}
use Rattle.pg_pairs.specs.declared.witness.item.Small.{Small}
use Rattle.pg_pairs.specs.declared.witness.item.Small.TheVariants.{Zero, NotZero, Far}
use Rattle.pg_pairs.specs.inner.CarriedItems.{leaf_by, value_item}
use Rattle.pg_pairs.proofs.lemmas.witness.carried.CarryLists.{zero_in_range}
use Rattle.pg_pairs.proofs.lemmas.witness.carried.CarryUnlikeMaps.{far_in_range}
use Rattle.pg_pairs.proofs.lemmas.gaps.GapItems.{IsLeafy}
use Rattle.pg_pairs.proofs.lemmas.witness.LeastContents.{nonzero_in_range}

small_in_range : (small : Small) (e : Element) → IsLeafy e → InRange (form e) (leaf_by small (form e))
small_in_range Zero e leafy = zero_in_range e leafy
small_in_range NotZero e leafy = nonzero_in_range e leafy
small_in_range Far e leafy = far_in_range e leafy

pub small_text : (small : Small) (leaf : Leaf) → leaf ≡ leaf_by small Raw → InRange Text leaf
small_text small leaf is = subst (InRange Text) (sym (is ∙ same small)) (small_in_range small (elements.Scalar scalars.String) tt)
  where
    same : (s : Small) → leaf_by s Raw ≡ leaf_by s Text
    same Zero = refl
    same NotZero = refl
    same Far = refl

pub small_raw : (small : Small) (leaf : Leaf) → leaf ≡ leaf_by small Raw → InRange Raw leaf
small_raw small leaf is = subst (InRange Raw) (sym is) (small_in_range small (elements.Scalar scalars.Bytes) tt)

pub if_ok_map : {T E : Type 0} {A B : T → Type 0} (r : Result T E) → ((x : T) → A x → B x) → IfOk r A → IfOk r B
if_ok_map (Ok x) f h = f x h
if_ok_map (Err e) f h = tt

pub no_map : (p : Presence) → ((k : Scalar) → p ≡ presences.Map k → ⊥) → is_map p ≡ false
no_map presences.Implicit other = refl
no_map presences.Explicit other = refl
no_map (presences.Repeated packed) other = refl
no_map (presences.Map k) other = absurd (other k refl)

-- an item that is no message is its leaf
pub plain_item : (item : Option Value) → IfSome item IsKey → option_map value_item item ≡ option_map Plain (option_map leaf_of item)
plain_item None key = refl
plain_item (Some (values.Int n)) key = refl
plain_item (Some (values.F32 bits)) key = refl
plain_item (Some (values.F64 bits)) key = refl
plain_item (Some (values.Text text)) key = refl
plain_item (Some (values.Bytes bytes)) key = refl
plain_item (Some (values.Msg child)) key = absurd key

pub plain_items : {E : Type 0} (r : Result (Option Value) E) (gap : Option Leaf) → IfOk r (λ item. option_map leaf_of item ≡ gap) → IfOk r (λ item. IfSome item IsKey) → IfOk r (λ item. option_map value_item item ≡ option_map Plain gap)
plain_items (Ok item) gap is key = plain_item item key ∙ ap (option_map Plain) is
plain_items (Err e) gap is key = tt
