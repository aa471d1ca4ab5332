-- Which files are visible in each file, as marks.
use Rattle.std.specs.List.{All, list_any}
use Rattle.std.specs.Prelude.{◌≡◌, ◌<◌, ℕ, Bool, false, List, get_or, length, slice_get, nat_eq, Some, if◌then◌else◌}
use Rattle.pg_link.specs.names.Files.{Import, import_paths, public_paths, is_path_of, handed_on, seen_paths}
use Rattle.pg_link.specs.names.Names.{Text}
use Rattle.pg_link.specs.walk.Walk.{Entry, outlines, path_of}

-- the marks are just those of the files that have one of these paths
abbrev pub Marks : List Entry → List Text → List Bool → Type 0
Marks files paths marks = (i : ℕ) (e : Entry) → slice_get files i ≡ Some e
    → get_or marks i false ≡ is_path_of paths (path_of e)

-- a mark for each file
pub record IsMask (files : List Entry) (paths : List Text) (marks : List Bool) : Type 0 where
  pub same_length : length marks ≡ length files
  pub is_marked : Marks files paths marks

-- each of the first files has its mask
abbrev pub AreMasks : List Entry → (Text → List Text) → List (List Bool) → Type 0
AreMasks files paths masks = (i : ℕ) (marks : List Bool) (e : Entry) → slice_get masks i ≡ Some marks
    → slice_get files i ≡ Some e
    → IsMask files (paths (path_of e)) marks

-- the number is among these
abbrev pub is_numbered : List ℕ → ℕ → Bool
is_numbered numbers k = list_any (nat_eq k) numbers

-- the numbers of just the files that have one of these paths
pub record AreNumbers (files : List Entry) (paths : List Text) (numbers : List ℕ) : Type 0 where
  pub within : All (λ n. n < length files) numbers
  pub are_theirs : (i : ℕ) (e : Entry) → slice_get files i ≡ Some e
      → is_numbered numbers i ≡ is_path_of paths (path_of e)

-- what the first files hand on
abbrev pub AreHanded : List Entry → List (List ℕ) → Type 0
AreHanded files handed = (i : ℕ) (numbers : List ℕ) (e : Entry) → slice_get handed i ≡ Some numbers
    → slice_get files i ≡ Some e
    → AreNumbers files (handed_on (outlines files) (path_of e)) numbers

-- what the first files see
abbrev pub AreVisibleFiles : List Entry → List (List Bool) → Type 0
AreVisibleFiles files = AreMasks files (seen_paths (outlines files))

-- the paths of all imports, or of the public ones
abbrev pub taken : Bool → List Import → List Text
taken all lines = if all then import_paths lines else public_paths lines
