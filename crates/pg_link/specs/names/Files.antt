-- What files declare and see (proto3 language guide, "Importing Definitions").
use Rattle.std.specs.List.{find, filter, list_any, All, IsAmong}
use Rattle.std.specs.Option.{option_map}
use Rattle.std.specs.Prelude.{◌≡◌, ◌⊎◌, ◌↔◌, ℕ, Bool, true, false, List, [], ◌∷◌, if◌then◌else◌, map, flat_map}
use Rattle.std.specs.Str.{bytes_eq}
use Rattle.pg_link.specs.declared.names.Kind.{Kind}
use Rattle.pg_link.specs.names.Names.{Text, Names}

-- a name that a file declares, in full, and the byte at which its word begins
pub record Declared : Type 0 where
  pub name : Text
  pub kind : Kind
  pub at : ℕ

pub record Import : Type 0 where
  pub path : Text
  pub is_public : Bool
  pub at : ℕ

-- imports and names in the order in which the source file has them
pub record File : Type 0 where
  pub path : Text
  pub imports : List Import
  pub declared : List Declared

-- ---- what is visible in a file

pub record Imports (files : List File) (path other : Text) : Type 0 where
  pub file : File
  pub line : Import
  pub is_there : IsAmong files file
  pub has_line : IsAmong file.imports line
  pub from_path : file.path ≡ path
  pub to_other : line.path ≡ other

pub record ImportsPublicly (files : List File) (path other : Text) : Type 0 where
  pub imports : Imports files path other
  pub is_public : imports.line.is_public ≡ true

-- in whatever imports a file, it and what it imports by `import public`, onwards, are visible
pub data HandsOn (files : List File) : Text → Text → Type 0 where
  Itself : {path : Text} → HandsOn files path path
  Onwards : {path next other : Text} → ImportsPublicly files path next → HandsOn files next other
      → HandsOn files path other

-- in a file, it and its imports and what these hand on are visible
abbrev pub Sees : List File → Text → Text → Type 0
Sees files path other = (path ≡ other) ⊎ ((next : Text) × Imports files path next × HandsOn files next other)

-- ---- computed on files of which each is before those that it imports

abbrev pub public_paths : List Import → List Text
public_paths [] = []
public_paths (line ∷ lines) = if line.is_public then line.path ∷ public_paths lines else public_paths lines

-- the paths that the file of this path hands on
abbrev pub handed_on : List File → Text → List Text
handed_on [] path = []
handed_on (file ∷ files) path = if bytes_eq file.path path
    then path ∷ flat_map (λ next. handed_on files next) (public_paths file.imports)
    else handed_on files path

-- the paths that are visible in it
abbrev pub seen_paths : List File → Text → List Text
seen_paths [] path = []
seen_paths (file ∷ files) path = if bytes_eq file.path path
    then path ∷ flat_map (λ line. handed_on files line.path) file.imports
    else seen_paths files path

-- ---- the names in files

abbrev pub kind_in : List Declared → Names
kind_in declared full = option_map (λ d. d.kind) (find (λ d. bytes_eq d.name full) declared)

abbrev pub is_path_of : List Text → Text → Bool
is_path_of paths path = list_any (bytes_eq path) paths

-- the names that are declared in the files of these paths
abbrev pub names_at : List Text → List File → Names
names_at paths files = kind_in (flat_map (λ file. file.declared) (filter (λ file. is_path_of paths file.path) files))

abbrev pub visible_names : List File → Text → Names
visible_names files path = names_at (seen_paths files path) files

abbrev pub all_names : List File → Names
all_names files = kind_in (flat_map (λ file. file.declared) files)

-- ---- the order of files

-- none is there twice
abbrev pub Differ : List Text → Type 0
Differ [] = Unit {0}
Differ (path ∷ paths) = (is_path_of paths path ≡ false) × Differ paths

abbrev pub paths_of : List File → List Text
paths_of = map (λ file. file.path)

abbrev pub import_paths : List Import → List Text
import_paths = map (λ line. line.path)

-- Each file imports no path twice, and is before all that it imports.
abbrev pub InOrder : List File → Type 0
InOrder [] = Unit {0}
InOrder (file ∷ files) = All (λ path. is_path_of (paths_of files) path ≡ true) (import_paths file.imports)
    × Differ (import_paths file.imports) × InOrder files

-- going by imports, a path leads to another
pub data Leads (files : List File) : Text → Text → Type 0 where
  Next : {path other : Text} → Imports files path other → Leads files path other
  Further : {path next other : Text} → Imports files path next → Leads files next other → Leads files path other

abbrev pub HasNoCycle : List File → Type 0
HasNoCycle files = (path : Text) → Leads files path path → ⊥

-- What is computed of each of the files is what is visible in it, and nothing else.
abbrev pub SeesThese : List File → Type 0
SeesThese files = (path : Text) → is_path_of (paths_of files) path ≡ true
    → (other : Text) → (is_path_of (seen_paths files path) other ≡ true) ↔ Sees files path other

-- It is so of all files in order.
abbrev pub SeenPathsAreSeen : Type 0
SeenPathsAreSeen = (files : List File) → InOrder files → Differ (paths_of files) → SeesThese files
