-- Imports of a schema, as a set's message says them.
use Rattle.std.specs.Prelude.{ℕ, Bool, List}
use Rattle.std.specs.String.{string_bytes}
use Rattle.pg_schema.specs.declared.parts.file.Import.{Import}

-- the path, and whether it is public
abbrev pub import_of : Import → List ℕ × Bool
import_of i = (string_bytes i.path, i.is_public)
