-- How the files of a schema are ordered: after those that they import (that a second import is refused is this
-- profile's choice).
use Rattle.std.specs.Prelude.{◌≡◌, ℕ, ⊤, Bool, true, false, List, [], ◌∷◌, ◌++◌, map}
use Rattle.std.specs.List.{list_all}
use Rattle.std.specs.String.{string_bytes}
use Rattle.pg_schema.specs.declared.parts.file.File.{File}
use Rattle.pg_schema.specs.declared.parts.file.Import.{Import}
use Rattle.pg_schema.specs.rules.Pairs.{are_distinct}
use Rattle.pg_schema.specs.rules.TextSets.{is_among}

abbrev pub file_name : File → List ℕ
file_name f = string_bytes f.name

-- no path is imported twice
abbrev pub imports_apart : File → Bool
imports_apart f = are_distinct (map (λ (i : Import). string_bytes i.path) f.imports.items)

-- what is imported is among the names
abbrev pub imports_among : List (List ℕ) → List Import → Bool
imports_among names imports = list_all (λ (i : Import). is_among names (string_bytes i.path)) imports

-- each file has a name of its own, and comes after those that it imports, where files of these names come first
abbrev pub AreBehind : List (List ℕ) → List File → Type 0
AreBehind names [] = ⊤
AreBehind names (f ∷ fs) =
    (imports_among names f.imports.items ≡ true) × (is_among names (file_name f) ≡ false)
    × AreBehind (names ++ file_name f ∷ []) fs
