-- Files as the code has them, and what is made of one.
use Rattle.std.specs.Prelude.{◌≡◌, ℕ, map, option_map, Option}
use Rattle.pg_link.specs.declared.uses.target.Target.{Target}
use Rattle.pg_check.specs.declared.parts.made_parts.Made.{Made}
use Rattle.pg_check.specs.declared.parts.made_parts.Source as code
use Rattle.pg_check.specs.declared.rules.types.Targets.{Targets}
use Rattle.pg_check.specs.parts.EnumPlaces.{by_scope}
use Rattle.pg_check.specs.parts.MadeEnums.{enumeration, made_enum}
use Rattle.pg_check.specs.parts.MadeParts.{EachIs, IsFileOf, IsTypeOf, Source, file_services, file_shape, type_trees}
use Rattle.pg_check.specs.parts.MadeServices.{service}
use Rattle.pg_check.specs.inner.ByPlace.{named_at}
use Rattle.pg_check.specs.rules.Outline.{scoped_enums}

-- what the type name that begins at a byte of a file names
abbrev pub target_in : Targets → ℕ → Option Target
target_in t at = option_map (by_scope t.enums.now) (named_at t.found.places.now t.found.targets.now at)

abbrev pub source : code.Source → Source
source s = record { path = s.path.now; text = s.text.now; tree = s.tree.now; targets = target_in s.targets }

-- after so many message types, enums and services
pub record IsMadeBy (types enums services : ℕ) (s : Source) (made : Made) : Type 0 where
  pub of_types : EachIs IsTypeOf (type_trees types enums s) made.types.items
  pub of_enums : map enumeration made.enums.items ≡ map made_enum (scoped_enums s.tree)
  pub of_services : map service made.services.items ≡ file_services s
  pub of_file : IsFileOf (file_shape types enums services s) made.file
