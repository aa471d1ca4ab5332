-- How the parts of linked files are ordered.
use Rattle.std.specs.Prelude.{◌≡◌, true, []}
use Rattle.std.specs.List.{list_all}
use Rattle.pg_schema.specs.declared.parts.Parts.{Parts}
use Rattle.pg_schema.specs.standing.Imports.{AreBehind, imports_apart}
use Rattle.pg_schema.specs.standing.InOrder.{StandInOrder}
use Rattle.pg_schema.specs.standing.Nesting.{are_shallow}

-- Each file imports no path twice and comes after those that it imports, message types are nested at most 64 deep, and
-- message types, enums and services are numbered in the order of a schema that a set states.
pub record StandingParts (parts : Parts) : Type 0 where
  pub imports_once : list_all imports_apart parts.files.items ≡ true
  pub behind : AreBehind [] parts.files.items
  pub shallow : are_shallow parts ≡ true
  pub places : StandInOrder parts
