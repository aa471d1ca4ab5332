-- The order of files: depth first, each after those that it imports (this profile's choice).
use Rattle.std.specs.List.{find}
use Rattle.std.specs.Option.{option_map}
use Rattle.std.specs.Prelude.{List, [], Option}
use Rattle.std.specs.Str.{bytes_eq}
use Rattle.pg_schema.specs.standing.Visits.{Visits}
use Rattle.pg_link.specs.names.Files.{File, import_paths, paths_of}
use Rattle.pg_link.specs.names.Names.{Text}

-- what the file of that path imports, in the order of its statements
abbrev pub imports_at : List File → Text → Option (List Text)
imports_at files path = option_map (λ (f : File). import_paths f.imports)
    (find (λ (f : File). bytes_eq f.path path) files)

-- these paths were visited in order, after those in front, which were listed already, and each file is listed
-- where its visit ends
abbrev pub AreListed : (front visited : List Text) → List File → Type 0
AreListed front visited files = Visits bytes_eq (imports_at files) front visited (paths_of files)

-- the files are in post-order of imports, which is begun at the roots in their order
abbrev pub IsPostOrder : (roots : List Text) → List File → Type 0
IsPostOrder roots files = AreListed [] roots files
