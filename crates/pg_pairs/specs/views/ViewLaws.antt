-- The law of views: the least number that isn't alike is one with the shortest body, and of these the least.
use Rattle.std.specs.Prelude.{◌≡◌, ℕ, ℤ, pos, ◌^◌, ◌≤◌, ⊤, Bool, true, false, length, Option, Some, None}
use Rattle.std.specs.Int.Signed.{◌≤ℤ◌}
use Rattle.std.specs.Ordering.{int_eq}
use Rattle.pg_schema.specs.declared.parts.field.EnumId.{EnumId}
use Rattle.pg_schema.specs.declared.parts.Parts.{Parts}
use Rattle.pg_wire.specs.Varint.{varint}
use Rattle.pg_wire.specs.Words.{IsBetween, twos_complement}
use Rattle.pg_dyn.specs.declared.view_name.ViewName.TheVariants as views
use Rattle.pg_pairs.specs.views.EnumView.{EnumView, by_numbers}
use Rattle.pg_pairs.specs.views.NamedView.{seen_under}

-- 0 counts, or the number isn't 0
abbrev pub Counts : Bool → ℤ → Type 0
Counts true n = ⊤
Counts false n = int_eq n (pos 0) ≡ false

-- a number of 32 bits that counts and isn't alike
pub record Differs (alike : ℤ → Bool) (zero : Bool) (n : ℤ) : Type 0 where
  pub in_range : IsBetween (2 ^ 31) (2 ^ 31) n
  pub counts : Counts zero n
  pub not_alike : alike n ≡ false

abbrev pub word_length : ℤ → ℕ
word_length n = length (varint (twos_complement (2 ^ 64) n))

-- it differs, with no longer a body than any other number that does, and is the least of those of its length
pub record IsShortest (alike : ℤ → Bool) (zero : Bool) (n : ℤ) : Type 0 where
  pub differs : Differs alike zero n
  pub shortest : (m : ℤ) → Differs alike zero m → word_length n ≤ word_length m
  pub lowest : (m : ℤ) → Differs alike zero m → word_length m ≡ word_length n → n ≤ℤ m

abbrev pub IsLeastOf : (ℤ → Bool) → Bool → Option ℤ → Type 0
IsLeastOf alike zero (Some n) = IsShortest alike zero n
IsLeastOf alike zero None = (n : ℤ) → Differs alike zero n → ⊥

-- the law of an enum view
abbrev pub IsEnumView : EnumView → Type 0
IsEnumView enum_view =
    (old new : EnumId) (zero : Bool) → IsLeastOf (enum_view.alike old new) zero (enum_view.least old new zero)

-- The view by numbers compares enums by their numbers, between any two schemas.
abbrev pub NumbersAreAlike : Type 0
NumbersAreAlike = (old new : Parts) → seen_under views.Numbers old new ≡ by_numbers
