-- Files that are linked: their names, and what their uses resolve to.
use Rattle.std.specs.List.{All, IsAmong}
use Rattle.std.specs.Prelude.{◌≡◌, ◌≤◌, ℕ, List, ◌∷◌, map, length, take, Some}
use Rattle.pg_lex.specs.Place.{line, column}
use Rattle.pg_link.specs.declared.uses.target.Target.{Target}
use Rattle.pg_link.specs.names.Files.{Declared, Differ, InOrder, SeesThese, paths_of}
use Rattle.pg_link.specs.names.Names.{Text}
use Rattle.pg_link.specs.names.Outline.{file_names}
use Rattle.pg_link.specs.names.Standing.{NoneTwice, OncePerName, all_standings}
use Rattle.pg_link.specs.uses.Targets.{file_targets}
use Rattle.pg_link.specs.walk.Walk.{Entry, IsParsed, outlines, path_of}

-- files, each after those that it imports, and for each what its uses resolve to, in the order of its bytes
pub record LinkedFiles : Type 0 where
  pub files : List Entry
  pub targets : List (List Target)

-- What holds of all linked files: each tree is that of its file's bytes, each path is there once, each file comes after
-- those that it imports, no name is declared twice, and each use of a file resolves to its target. A use finds the names
-- of the files that are visible in its own (`Sees`).
pub record IsLinkedUp (l : LinkedFiles) : Type 0 where
  pub parsed : All (λ e. IsParsed e.1.bytes.items e.1.tree) l.files
  pub in_order : InOrder (outlines l.files)
  pub apart : Differ (paths_of (outlines l.files))
  pub few : length l.files ≤ 1024
  pub once : NoneTwice (all_standings l.files)
  pub unique : OncePerName (all_standings l.files)
  pub sees : SeesThese (outlines l.files)
  pub resolved : map (map Some) l.targets ≡ map (file_targets l.files) l.files

-- the full name, here without its dot, is declared in one of the files, at this line and column
pub record IsDeclaredAt (files : List Entry) (full path : Text) (at_line at_column : ℕ) : Type 0 where
  pub file : Entry
  pub declared : Declared
  pub is_there : IsAmong files file
  pub declares : IsAmong (file_names file.1.tree) declared
  pub is_named : declared.name ≡ 46 ∷ full
  pub is_path : path ≡ path_of file
  pub is_line : at_line ≡ line (take declared.at file.1.bytes.items)
  pub is_column : at_column ≡ column (take declared.at file.1.bytes.items)

-- no file declares the full name, here without its dot
abbrev pub IsDeclaredNowhere : List Entry → Text → Type 0
IsDeclaredNowhere files full = (file : Entry) (d : Declared) → IsAmong files file
    → IsAmong (file_names file.1.tree) d → d.name ≡ 46 ∷ full → ⊥
