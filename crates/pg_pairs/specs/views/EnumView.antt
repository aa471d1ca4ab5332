-- How enum items are compared between an old and a new enum, and the least that differs.
use Rattle.std.specs.Prelude.{ℤ, Bool, Option, None}
use Rattle.pg_schema.specs.declared.parts.field.EnumId.{EnumId}
use Rattle.pg_dyn.specs.views.Comparison.{View, numbers}

-- which numbers of an old enum are the same item in a new one; and of those that aren't, without 0 where this doesn't
-- count, the least of the shortest
pub record EnumView : Type 0 where
  pub alike : View
  pub least : EnumId → EnumId → Bool → Option ℤ

-- every number is alike
abbrev pub by_numbers : EnumView
by_numbers = record { alike = numbers; least = λ old new zero. None }
