-- The files of a call, by their paths.
use Rattle.std.specs.Prelude.{ℕ, List, [], ◌∷◌, Option, Some, None, map}
use Rattle.std.specs.Borrow.{Bor}
use Rattle.pg_call.specs.declared.BothFiles.{BothFiles}
use Rattle.pg_call.specs.declared.Files.{Files}

abbrev pub Text : Type 0
Text = List ℕ

-- the paths of files below a folder, the included folders, and the list that names further files, where there is one
pub record Paths : Type 0 where
  pub folder : Text
  pub includes : List Text
  pub files : List Text
  pub list : Option Text

-- the paths of the old and of the new side
pub record BothPaths : Type 0 where
  pub old : Paths
  pub new : Paths

abbrev pub paths_of : List (Bor Text) → List Text
paths_of = map (λ path. path.now)

abbrev pub first : List Text → Option Text
first [] = None
first (text ∷ texts) = Some text

abbrev pub paths_in : Files → Paths
paths_in files = record {
  folder = files.folder.now;
  includes = paths_of files.includes.now;
  files = paths_of files.paths.now;
  list = first (paths_of files.list.now);
}

abbrev pub both_paths : BothFiles → BothPaths
both_paths files = record { old = paths_in files.old; new = paths_in files.new }
