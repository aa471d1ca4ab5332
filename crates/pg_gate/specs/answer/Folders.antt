-- Folders in which a path is looked for in turn: the first that has it gives it.
use Rattle.std.specs.Prelude.{◌&&◌, ◌||◌, Bool, true, false, List, [], ◌∷◌, codes}
use Rattle.pg_call.specs.Paths.{Paths}
use Rattle.pg_link.specs.names.Names.{Text}
use Rattle.pg_link.specs.walk.FolderPath.{path_below}
use Rattle.pg_link.specs.walk.Walk.{World, world}

-- a folder may give these bytes for the path, where the source may lack it in each folder before
abbrev pub given_in : (Text → Text → Bool) → (Text → Bool) → List Text → (path bytes : Text) → Bool
given_in give lack [] path bytes = false
given_in give lack (folder ∷ folders) path bytes = give (path_below folder path) bytes
    || (lack (path_below folder path) && given_in give lack folders path bytes)

-- the source may lack the path in each folder
abbrev pub lacked_in : (Text → Bool) → List Text → (path : Text) → Bool
lacked_in lack [] path = true
lacked_in lack (folder ∷ folders) path = lack (path_below folder path) && lacked_in lack folders path

-- a source that is looked at through its folders: each path is looked for in each in turn
abbrev pub world_through : (Text → Text → Bool) → (Text → Bool) → (folders roots : List Text) → World
world_through give lack folders roots = world (given_in give lack folders) (lacked_in lack folders) (codes ".") roots

-- ---- a folder and the included ones: where there are none, paths are below it, and else looked for in each in turn

abbrev pub given_including : (Text → Text → Bool) → (Text → Bool) → (folder : Text) → (includes : List Text)
    → Text → Text → Bool
given_including give lack folder [] = give
given_including give lack folder (include ∷ includes) = given_in give lack (folder ∷ include ∷ includes)

abbrev pub lacked_including : (Text → Bool) → (folder : Text) → (includes : List Text) → Text → Bool
lacked_including lack folder [] = lack
lacked_including lack folder (include ∷ includes) = lacked_in lack (folder ∷ include ∷ includes)

abbrev pub folder_including : (folder : Text) → (includes : List Text) → Text
folder_including folder [] = folder
folder_including folder (include ∷ includes) = codes "."

abbrev pub world_including : (Text → Text → Bool) → (Text → Bool) → (folder : Text) → (includes roots : List Text)
    → World
world_including give lack folder includes roots = world (given_including give lack folder includes)
    (lacked_including lack folder includes) (folder_including folder includes) roots

-- the files of a source at these paths
abbrev pub world_at : (Text → Text → Bool) → (Text → Bool) → Paths → World
world_at give lack paths = world_including give lack paths.folder paths.includes paths.files
