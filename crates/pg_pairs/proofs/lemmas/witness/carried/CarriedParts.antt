-- What an entry beside another holds makes the message of its choice.
use Rattle.std.proofs.Common.{◌≡◌, ℕ, Bool, true, false, if◌then◌else◌, [], Some, refl, ap₂}
use Rattle.pg_schema.specs.declared.parts.field.Scalar.{Scalar}
use Rattle.pg_schema.specs.declared.parts.field.Element.{Element}
use Rattle.pg_schema.specs.declared.parts.field.Element.TheVariants as elements
use Rattle.pg_dyn.specs.message.Message.{ends, with_part}
use Rattle.pg_dyn.specs.word.Coding.{form, zero_leaf}
use Rattle.pg_pairs.specs.declared.witness.item.Small.TheVariants.{Zero, Far}
use Rattle.pg_pairs.specs.gaps.Likeness.{like}
use Rattle.pg_pairs.specs.witness.Carried.{far_leaf, apart_leaf, apart_item, item_by, alone}
use Rattle.pg_pairs.specs.inner.CarriedItems.{leaf_by, apart_small}

-- a key and a value beside others
pub apart_made : (number : ℕ) (k l : Scalar) (e d : Element) → with_part number (Some (leaf_by (apart_small (elements.Scalar k) (elements.Scalar l)) (form (elements.Scalar k)))) (item_by (leaf_by (apart_small e d)) e) (ends []) ≡ alone number (Some (apart_leaf (elements.Scalar k) (elements.Scalar l))) (apart_item e d)
apart_made number k l e d = ap₂ (λ key item. alone number (Some key) item) (leaf_is (elements.Scalar k) (like (elements.Scalar k) (elements.Scalar l))) (item_is e (like e d))
  where
    leaf_is : (x : Element) (b : Bool) → leaf_by (if b then Zero else Far) (form x) ≡ (if b then zero_leaf (form x) else far_leaf (form x))
    leaf_is x true = refl
    leaf_is x false = refl

    item_is : (x : Element) (b : Bool) → item_by (leaf_by (if b then Zero else Far)) x ≡ (if b then item_by zero_leaf x else item_by far_leaf x)
    item_is x true = refl
    item_is x false = refl
