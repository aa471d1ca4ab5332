-- What is answered of two whole schemas.
use Rattle.std.specs.Prelude.{◌≡◌, ℕ, List, map, Some, string_bytes}
use Rattle.std.specs.List.{AllByRecursion}
use Rattle.pg_schema.specs.declared.parts.Parts.{Parts}
use Rattle.pg_schema.specs.Parts.{name_at}
use Rattle.pg_dyn.specs.declared.view_name.ViewName.{ViewName}
use Rattle.pg_pairs.specs.declared.choices.choice.Pair.{Pair}
use Rattle.pg_pairs.specs.views.EnumView.{EnumView}
use Rattle.pg_pairs.specs.views.NamedView.{seen_under}
use Rattle.pg_least.specs.Loss.{AreRoots}
use Rattle.pg_causes.specs.Causes.{AreCauses}
use Rattle.pg_causes.specs.Names.{only, shared}
use Rattle.pg_causes.specs.TypeLines.{IsTypeLine}
use Rattle.pg_causes.specs.declared.overview.Overview.{Overview}
use Rattle.pg_causes.specs.declared.overview.TypeLine.{TypeLine}

-- The roots are the message types that both schemas declare, in the old order of declaration. There are all causes that
-- they lead to, a line for each of these types, and the full names of the types that just one schema declares.
pub record IsOverviewBy (enum_view : EnumView) (old new : Parts) (overview : Overview) : Type 0 where
  pub roots : List Pair
  pub roots_in_order : map (λ (p : Pair). name_at old.types.items p.old) roots ≡ map Some (shared old new)
  pub roots_alike : AllByRecursion (λ p. (name : List ℕ) × AreRoots old new name p) roots
  pub causes : AreCauses enum_view old new roots overview.causes.items
  pub types_in_order : map (λ (line : TypeLine). string_bytes line.name) overview.types.items ≡ shared old new
  pub types : AllByRecursion (IsTypeLine enum_view old new) overview.types.items
  pub removed : map string_bytes overview.removed.items ≡ only old new
  pub added : map string_bytes overview.added.items ≡ only new old

-- The promise, with the numbers of two enums compared as the view of that name does.
abbrev pub IsOverview : ViewName → Parts → Parts → Overview → Type 0
IsOverview view old new overview = IsOverviewBy (seen_under view old new) old new overview
