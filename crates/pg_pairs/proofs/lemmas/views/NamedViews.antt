-- What the view of a name finds between two schemas is an enum view, for enums that aren't there too.
use Rattle.std.proofs.Common.{◌≡◌, ℤ, Bool, true, Option, Some, None, refl, true≢false, rules}
use Rattle.pg_schema.specs.declared.parts.enum_type.EnumType.{EnumType}
use Rattle.pg_schema.specs.declared.parts.Parts.{Parts}
use Rattle.pg_schema.specs.Parts.{enum_at}
use Rattle.pg_dyn.specs.declared.view_name.ViewName.{ViewName}
use Rattle.pg_dyn.specs.declared.view_name.ViewName.TheVariants as views
use Rattle.pg_dyn.specs.views.ViewNames.{alike_there, alike_under}
use Rattle.pg_pairs.specs.views.ViewLaws.{IsEnumView, IsLeastOf, NumbersAreAlike}
use Rattle.pg_pairs.specs.views.NamedView.{least_there, least_under, seen_under}
use Rattle.pg_pairs.proofs.lemmas.views.NameLaws.{least_by_name_is}

-- where every number is alike none differs
pub none_differs : (zero : Bool) → IsLeastOf (λ n. true) zero None
none_differs zero n d = true≢false d.not_alike

pub least_is_shortest : (view : ViewName) (old new : EnumType) (zero : Bool) → IsLeastOf (alike_under view old new) zero (least_under view old new zero)
least_is_shortest views.Numbers old new zero = none_differs zero
least_is_shortest views.Names old new zero = least_by_name_is old new zero

of_enums : (view : ViewName) (a b : Option EnumType) (zero : Bool) → IsLeastOf (λ n. alike_there view a b n) zero (least_there view a b zero)
of_enums view (Some old) (Some new) zero = least_is_shortest view old new zero
of_enums view (Some old) None zero = none_differs zero
of_enums view None b zero = none_differs zero

pub seen_under_is : (view : ViewName) (old new : Parts) → IsEnumView (seen_under view old new)
seen_under_is view old new a b zero = of_enums view (enum_at old a) (enum_at new b) zero

all_alike : (old new : Option EnumType) (n : ℤ) → alike_there views.Numbers old new n ≡ true
all_alike (Some a) (Some b) n = refl
all_alike (Some a) None n = refl
all_alike None new n = refl

none_differ : (old new : Option EnumType) (zero : Bool) → least_there views.Numbers old new zero ≡ None
none_differ (Some a) (Some b) zero = refl
none_differ (Some a) None zero = refl
none_differ None new zero = refl

pub numbers_are_alike : NumbersAreAlike
numbers_are_alike old new = search (rules, all_alike, none_differ)
