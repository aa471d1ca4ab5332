use Rattle.std.proofs.Common.{◌≡◌, Bool, ◌⊎◌, inl, inr, refl}
use Rattle.pg_schema.specs.declared.parts.field.EnumId.{EnumId}
use Rattle.pg_schema.specs.declared.parts.field.Element.{Element}
use Rattle.pg_schema.specs.declared.parts.field.Element.TheVariants as elements
use Rattle.pg_pairs.specs.views.EnumView.{EnumView, by_numbers}
use Rattle.pg_pairs.specs.gaps.Gaps.{gap_item}
use Rattle.pg_pairs.proofs.laws.names_alone.Goals as goal

bears : (enum_view : EnumView) (counts : Bool) (old new : Element)
    → (gap_item enum_view counts old new ≡ gap_item by_numbers counts old new) ⊎ ((s : EnumId) × (t : EnumId) × (old ≡ elements.Enum s) × (new ≡ elements.Enum t))
bears enum_view counts (elements.Message s) new = inl refl
bears enum_view counts (elements.Scalar s) (elements.Message t) = inl refl
bears enum_view counts (elements.Scalar s) (elements.Scalar t) = inl refl
bears enum_view counts (elements.Scalar s) (elements.Enum t) = inl refl
bears enum_view counts (elements.Enum s) (elements.Message t) = inl refl
bears enum_view counts (elements.Enum s) (elements.Scalar t) = inl refl
bears enum_view counts (elements.Enum s) (elements.Enum t) = inr (s, t, refl, refl)

pub returns : goal.returns
returns c = λ enum_view counts. (λ s t. refl, bears enum_view counts)
