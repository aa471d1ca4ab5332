-- The presence of fields that aren't maps, by label, items and options.
use Rattle.std.proofs.Common.{◌≡◌, ℤ, pos, Bool, false, Option, Some, None, refl, unwrap_or, rules}
use Rattle.std.proofs.lemmas.Bool.Decides.{Decides-int_eq}
use Rattle.std.specs.Ordering.{int_eq}
use Rattle.pg_schema.specs.rules.Fields.{stated_or}

pub stated_is : (stated : Option Bool) (default : Bool) → unwrap_or stated default ≡ stated_or stated default
stated_is None default = refl
stated_is (Some flag) default = refl

pub not_three : (z : ℤ) → (z ≡ pos 3 → ⊥) → int_eq z (pos 3) ≡ false
not_three z other = search (rules, Decides-int_eq)
