-- Items that carried messages hold: gaps, children, zeros.
use Rattle.std.proofs.Common.{◌≡◌, ℕ, ◌<◌, Bool, true, Option, Some, None, option_and_then, ◌⊎◌, inl, inr, refl, ap, arith, rules}
use Rattle.pg_schema.specs.declared.parts.field.TypeId.{TypeId}
use Rattle.pg_schema.specs.declared.parts.field.Element.{Element}
use Rattle.pg_schema.specs.declared.parts.field.Element.TheVariants as elements
use Rattle.pg_schema.specs.declared.parts.field.Presence.TheVariants as presences
use Rattle.pg_dyn.specs.message.Message.{Leaf, Message, holds, with_part}
use Rattle.pg_dyn.specs.word.Coding.{Form, form}
use Rattle.pg_pairs.specs.views.EnumView.{EnumView}
use Rattle.pg_pairs.specs.views.ViewLaws.{IsEnumView}
use Rattle.pg_pairs.specs.gaps.Likeness.{like}
use Rattle.pg_pairs.specs.gaps.Gaps.{body_length, gap_item}
use Rattle.pg_pairs.specs.gaps.TrueGaps.{IsLeastUnseen}
use Rattle.pg_pairs.specs.choices.Costs.{with_length}
use Rattle.pg_pairs.specs.choices.Choices.{child_pair, Table, gap_body, child_body}
use Rattle.pg_pairs.specs.witness.Carried.{nonzero_leaf, item_by, least_part_of}
use Rattle.pg_pairs.proofs.lemmas.gaps.GapItems.{IsLeafy, gap_item_is}
use Rattle.pg_wire.proofs.PublicLaws.{lengths_grow}
use Rattle.pg_dyn.proofs.Lists.{option_map_some}

-- a leaf or a message
pub leaf_or_message : (e : Element) → IsLeafy e ⊎ ((s : TypeId) × (e ≡ elements.Message s))
leaf_or_message (elements.Message s) = inr (s, refl)
leaf_or_message (elements.Scalar s) = inl tt
leaf_or_message (elements.Enum s) = inl tt

pub like_leafy : (e d : Element) → like e d ≡ true → IsLeafy e → IsLeafy d
like_leafy (elements.Message s) d h leafy = absurd leafy
like_leafy (elements.Scalar s) (elements.Message t) h leafy = absurd (cc)
like_leafy (elements.Scalar s) (elements.Scalar t) h leafy = tt
like_leafy (elements.Scalar s) (elements.Enum t) h leafy = tt
like_leafy (elements.Enum s) (elements.Message t) h leafy = absurd (cc)
like_leafy (elements.Enum s) (elements.Scalar t) h leafy = tt
like_leafy (elements.Enum s) (elements.Enum t) h leafy = tt

pub like_message : (s : TypeId) (d : Element) → like (elements.Message s) d ≡ true → (t : TypeId) × (d ≡ elements.Message t)
like_message s (elements.Message t) h = (t, refl)
like_message s (elements.Scalar t) h = absurd (cc)
like_message s (elements.Enum t) h = absurd (cc)

-- only leaves have gaps, and only messages have children
pub gap_leafy : (enum_view : EnumView) (zero : Bool) (e d : Element) (item : Leaf) → gap_item enum_view zero e d ≡ Some item → IsLeafy e
gap_leafy enum_view zero (elements.Message s) d item h = absurd (cc)
gap_leafy enum_view zero (elements.Scalar s) d item h = tt
gap_leafy enum_view zero (elements.Enum s) d item h = tt

pub leafy_childless : (e d : Element) → IsLeafy e → child_pair e d ≡ None
leafy_childless (elements.Message s) d leafy = absurd leafy
leafy_childless (elements.Scalar s) d leafy = refl
leafy_childless (elements.Enum s) d leafy = refl

-- an item of leaves is a leaf
pub leaf_part : (leaf : Form → Leaf) (e : Element) → IsLeafy e → (number : ℕ) (key : Option Leaf) (later : Message) → with_part number key (item_by leaf e) later ≡ holds number key (leaf (form e)) later
leaf_part leaf (elements.Message s) leafy number key later = absurd leafy
leaf_part leaf (elements.Scalar s) leafy number key later = refl
leaf_part leaf (elements.Enum s) leafy number key later = refl

-- an implicit field's least item isn't zero
pub implicit_least : (number : ℕ) (e : Element) (later : Message) → least_part_of number presences.Implicit e later ≡ with_part number None (item_by nonzero_leaf e) later
implicit_least number (elements.Message s) later = refl
implicit_least number (elements.Scalar s) later = refl
implicit_least number (elements.Enum s) later = refl

pub record Gapped (enum_view : EnumView) (zero : Bool) (e d : Element) (body : ℕ) : Type 0 where
  pub item : Leaf
  pub item_is : gap_item enum_view zero e d ≡ Some item
  pub old_leafy : IsLeafy e
  pub new_leafy : IsLeafy d
  pub least : IsLeastUnseen enum_view.alike zero e d item
  pub body_is : body_length (form e) item ≡ body

-- the item of a gap
pub gapped : (enum_view : EnumView) → IsEnumView enum_view → (zero : Bool) (e d : Element) → like e d ≡ true → (body : ℕ) → gap_body enum_view zero e d ≡ Some body → Gapped enum_view zero e d body
gapped enum_view law zero e d is_like body h =
    search (rules, option_map_some, gap_leafy, like_leafy, gap_item_is)

-- a child with a number in the table
number_there : (o : Option (Option ℕ)) (x : ℕ) → option_and_then (λ bound. bound) o ≡ Some x → o ≡ Some (Some x)
number_there (Some (Some y)) x h = let same : y ≡ x = cc in ap (λ n. Some (Some n)) same
number_there (Some None) x h = absurd (cc)
number_there None x h = absurd (cc)

pub nested : (table : Table) (s t : TypeId) (body : ℕ) → child_body table (elements.Message s) (elements.Message t) ≡ Some body → (x : ℕ) × (table (record { old = s; new = t }) ≡ Some (Some x)) × (with_length x ≡ body)
nested table s t body h = search (rules, option_map_some, number_there)

pub same_bound : (o : Option (Option ℕ)) (x y : ℕ) → o ≡ Some (Some x) → o ≡ Some (Some y) → x ≡ y
same_bound o x y h k = search rules

pub longer : (x : ℕ) → x < with_length x
longer x = let positive = lengths_grow.3 x in omega (arith, positive)

pub same_cost : (a b : ℕ) → ◌≡◌ {A = Option ℕ} (Some a) (Some b) → a ≡ b
same_cost a b h = cc
