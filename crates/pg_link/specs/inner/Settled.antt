-- Linked files beside their index, what each of them reads, and where its uses begin.
use Rattle.std.specs.List.{All}
use Rattle.std.specs.Prelude.{◌≡◌, ◌≤◌, ℕ, Bool, List, ◌∷◌, map, length, slice_get, take, Some}
use Rattle.pg_lex.specs.Place.{line, column}
use Rattle.pg_link.specs.declared.names.index.Index as indexes
use Rattle.pg_link.specs.declared.uses.target.Target.{Target}
use Rattle.pg_link.specs.names.Files.{Differ, InOrder, paths_of}
use Rattle.pg_link.specs.Linked.{IsLinkedUp}
use Rattle.pg_link.specs.names.Names.{Text}
use Rattle.pg_link.specs.inner.Indexed.{Lists}
use Rattle.pg_link.specs.names.Standing.{all_standings}
use Rattle.pg_link.specs.uses.Targets.{file_places}
use Rattle.pg_link.specs.inner.VisibleFiles.{AreVisibleFiles}
use Rattle.pg_link.specs.walk.Walk.{Entry, IsParsed, outlines, path_of}

-- files as they were read
pub record IsRead (files : List Entry) : Type 0 where
  pub parsed : All (λ e. IsParsed e.1.bytes.items e.1.tree) files
  pub in_order : InOrder (outlines files)
  pub apart : Differ (paths_of (outlines files))
  pub few : length files ≤ 1024

-- linked files, next to their index, what is visible in each, and where its uses begin
pub record IsSettled (files : List Entry) (index : indexes.Index) (visible_files : List (List Bool))
    (targets : List (List Target)) (places : List (List ℕ)) : Type 0 where
  pub linked : IsLinkedUp (record { files = files; targets = targets })
  pub lists : Lists index (all_standings files)
  pub visible_length : length visible_files ≡ length files
  pub are_visible : AreVisibleFiles files visible_files
  pub placed : places ≡ map file_places files

-- the first of these files is there
pub record HasFirst (files : List Entry) (numbers : List ℕ) : Type 0 where
  pub number : ℕ
  pub others : List ℕ
  pub file : Entry
  pub is_first : numbers ≡ number ∷ others
  pub is_there : slice_get files number ≡ Some file

-- the first of these files, and the position of a byte of it
pub record IsFirstPlace (files : List Entry) (numbers : List ℕ) (at : ℕ) (path : Text)
    (at_line at_column : ℕ) : Type 0 where
  pub number : ℕ
  pub others : List ℕ
  pub file : Entry
  pub is_first : numbers ≡ number ∷ others
  pub is_there : slice_get files number ≡ Some file
  pub is_path : path ≡ path_of file
  pub is_line : at_line ≡ line (take at file.1.bytes.items)
  pub is_column : at_column ≡ column (take at file.1.bytes.items)
