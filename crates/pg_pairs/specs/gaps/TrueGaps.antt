-- What a gap is: a shortest item that the new element's reader doesn't see.
use Rattle.std.specs.Prelude.{◌≡◌, ◌≤◌, ⊤, Bool, true, false, Option, Some, None}
use Rattle.pg_schema.specs.declared.parts.field.Scalar.{Scalar}
use Rattle.pg_schema.specs.declared.parts.field.Element.{Element}
use Rattle.pg_schema.specs.declared.parts.field.Element.TheVariants as elements
use Rattle.pg_dyn.specs.message.Message.{Leaf, is_zero}
use Rattle.pg_dyn.specs.word.Coding.{form, scalar_form, body, leaf_in, InRange}
use Rattle.pg_dyn.specs.views.Comparison.{View, numbers, alike_leaves}
use Rattle.pg_pairs.specs.declared.gaps.gap_kind.Gap.{Gap}
use Rattle.pg_pairs.specs.declared.gaps.gap_kind.Gap.TheVariants as gaps
use Rattle.pg_pairs.specs.gaps.Likeness.{like}
use Rattle.pg_pairs.specs.gaps.Gaps.{body_length, gap, item_named}

-- what was read is the old item
abbrev pub is_alike_read : View → Element → Element → Leaf → Option Leaf → Bool
is_alike_read view old new item (Some read) = alike_leaves view old new item read
is_alike_read view old new item None = false

-- a reader of the new element reads an item of the old one as itself in what was written of it
abbrev pub is_seen : View → Element → Element → Leaf → Bool
is_seen view old new item = is_alike_read view old new item (leaf_in (form new) (body (form old) item))

-- an item counts where it isn't zero, or zero counts
abbrev pub ItemCounts : Bool → Leaf → Type 0
ItemCounts true item = ⊤
ItemCounts false item = is_zero item ≡ false

-- an item of the old element that counts, and that the reader of the new one doesn't see
pub record IsUnseen (view : View) (zero : Bool) (old new : Element) (item : Leaf) : Type 0 where
  pub in_range : InRange (form old) item
  pub counts : ItemCounts zero item
  pub not_seen : is_seen view old new item ≡ false

-- one with the least body
pub record IsLeastUnseen (view : View) (zero : Bool) (old new : Element) (item : Leaf) : Type 0 where
  pub unseen : IsUnseen view zero old new item
  pub least : (other : Leaf) → IsUnseen view zero old new other →
      body_length (form old) item ≤ body_length (form old) other

-- the item is a least one that isn't seen; without one, each that counts is seen
abbrev pub IsGapItem : View → Bool → Element → Element → Option Leaf → Type 0
IsGapItem view zero old new (Some item) = IsLeastUnseen view zero old new item
IsGapItem view zero old new None =
    (item : Leaf) → InRange (form old) item → ItemCounts zero item → is_seen view old new item ≡ true

-- What the table says of two scalar types is so, whether zero counts or not: the item that it names is a least one of
-- all that count and aren't seen; where it names none, each that counts is seen.
abbrev pub IsTrueOf : Scalar → Scalar → Gap → Type 0
IsTrueOf s t gaps.Unlike = like (elements.Scalar s) (elements.Scalar t) ≡ false
IsTrueOf s t gaps.None =
    (like (elements.Scalar s) (elements.Scalar t) ≡ true)
    × ((zero : Bool) → IsGapItem numbers zero (elements.Scalar s) (elements.Scalar t) None)
IsTrueOf s t (gaps.Least length value) =
    (like (elements.Scalar s) (elements.Scalar t) ≡ true)
    × (body_length (scalar_form s) (item_named (scalar_form s) value) ≡ length)
    × ((zero : Bool) →
    IsGapItem numbers zero (elements.Scalar s) (elements.Scalar t) (Some (item_named (scalar_form s) value)))

abbrev pub GapTable : Type 0
GapTable = (s t : Scalar) → IsTrueOf s t (gap s t)
