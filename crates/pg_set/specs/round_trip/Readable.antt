-- Schemas whose sets are read again (descriptor.proto; that messages may be nested 100 deep is this profile's choice).
use Rattle.std.specs.Prelude.{◌≡◌, true, []}
use Rattle.std.specs.List.{list_all}
use Rattle.pg_schema.specs.declared.parts.file.File.{File}
use Rattle.pg_schema.specs.declared.parts.Parts.{Parts}
use Rattle.pg_schema.specs.standing.Imports.{AreBehind, imports_apart}
use Rattle.pg_schema.specs.standing.InOrder.{StandInOrder}
use Rattle.pg_schema.specs.standing.Nesting.{nest_within}
use Rattle.pg_schema.specs.standing.Places.{most_deep}
use Rattle.pg_schema.specs.standing.StandingParts.{StandingParts}

-- each file imports no path twice and comes after those that it imports, messages are nested at most 100 deep, and all
-- is numbered in the order of a schema that a set states
pub record IsReadable (parts : Parts) : Type 0 where
  pub imports_once : list_all imports_apart parts.files.items ≡ true
  pub behind : AreBehind [] parts.files.items
  pub places : StandInOrder parts
  pub shallow : list_all (λ (f : File). nest_within most_deep parts.types.items f.types.items) parts.files.items ≡ true

-- A schema whose set is read as the same schema: each file imports no path twice and comes after those that it imports,
-- message types are nested at most 64 deep, and message types, enums and services are numbered in the order of a schema
-- that a set states.
abbrev pub IsReadAgain : Parts → Type 0
IsReadAgain parts = StandingParts parts
