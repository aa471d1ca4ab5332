-- What each file of a set imports, and that files are in post-order: each after those that it imports (this profile's
-- choice).
use Rattle.std.specs.Prelude.{ℕ, List, map, Bool, not, ◌&&◌, filter, find, Option, option_map}
use Rattle.std.specs.Str.{bytes_eq}
use Rattle.pg_schema.specs.rules.Pairs.{are_distinct}
use Rattle.pg_set.specs.stated.FileMessages.{is_descriptor}
use Rattle.pg_dyn.specs.message.Message.{Message}
use Rattle.pg_set.specs.stated.SetMessages.{text_at, texts_at}
use Rattle.pg_set.specs.declared.descriptor.proto.TheConstants as proto

-- a file by its path, with the paths that it imports, but for those that are left out
pub record Importer : Type 0 where
  pub path : List ℕ
  pub imports : List (List ℕ)

abbrev pub paths_of : List Importer → List (List ℕ)
paths_of files = map (λ (i : Importer). i.path) files

-- without that of descriptor.proto, where it is skipped
abbrev pub kept_paths : (skips : Bool) → List (List ℕ) → List (List ℕ)
kept_paths skips paths = filter (λ path. not (skips && is_descriptor path)) paths

abbrev pub importer_of : (skips : Bool) → Message → Importer
importer_of skips m = record { path = text_at proto.FILE_NAME m; imports = kept_paths skips (texts_at proto.FILE_DEPENDENCY m) }

-- what the file of that path imports
abbrev pub imports_at : List Importer → List ℕ → Option (List (List ℕ))
imports_at files path = option_map (λ (i : Importer). i.imports) (find (λ (i : Importer). bytes_eq i.path path) files)

abbrev pub imports_once : Importer → Bool
imports_once i = are_distinct i.imports
