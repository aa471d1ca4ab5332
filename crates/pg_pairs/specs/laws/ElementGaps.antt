-- The gap between any two like elements that are no messages, under any view of enum items; and zero, which like
-- elements see.
use Rattle.std.specs.Prelude.{◌≡◌, ⊤, pos, Bool, true, false}
use Rattle.pg_schema.specs.declared.parts.field.Element.{Element}
use Rattle.pg_schema.specs.declared.parts.field.Element.TheVariants as elements
use Rattle.pg_dyn.specs.message.Message.{Leaf, is_zero}
use Rattle.pg_dyn.specs.word.Coding.{form, InRange}
use Rattle.pg_dyn.specs.views.Comparison.{View}
use Rattle.pg_pairs.specs.views.EnumView.{EnumView}
use Rattle.pg_pairs.specs.views.ViewLaws.{IsEnumView}
use Rattle.pg_pairs.specs.gaps.Likeness.{like}
use Rattle.pg_pairs.specs.gaps.Gaps.{gap_item}
use Rattle.pg_pairs.specs.gaps.TrueGaps.{is_seen, IsGapItem}

abbrev pub IsNoMessage : Element → Type 0
IsNoMessage (elements.Message t) = ⊥
IsNoMessage e = ⊤

-- Between two enums it is the number that the view names, beside a scalar an enum's goes by int32, and between
-- scalars by the table: the item is a least one of all that count and aren't seen, and where there is none each that
-- counts is seen.
abbrev pub ElementGaps : Type 0
ElementGaps =
    (enum_view : EnumView) → IsEnumView enum_view → (zero : Bool) (old new : Element) → IsNoMessage old →
    like old new ≡ true →
    IsGapItem enum_view.alike zero old new (gap_item enum_view zero old new)

-- of two enums the view finds 0 alike
abbrev pub FindsZeroAlike : View → Element → Element → Type 0
FindsZeroAlike view (elements.Enum s) (elements.Enum t) = view s t (pos 0) ≡ true
FindsZeroAlike view old new = ⊤

-- Zero is seen between any two like elements, under any view, of two enums where it finds 0 alike: an item that isn't
-- seen isn't zero.
abbrev pub UnseenAreNotZero : Type 0
UnseenAreNotZero =
    (view : View) (old new : Element) → FindsZeroAlike view old new → IsNoMessage old → like old new ≡ true →
    (item : Leaf) → InRange (form old) item →
    is_seen view old new item ≡ false → is_zero item ≡ false
