-- What is kept while imports are followed.
use Rattle.std.specs.Global.{Global}
use Rattle.std.specs.List.{All, Contains}
use Rattle.std.specs.Prelude.{◌≡◌, ◌≤◌, ◌+◌, ℕ, Bool, true, false, List, [], ◌∷◌, ◌++◌, map, reverse, length, Option, Some, None, IsTrue, String, string_bytes, ◌||◌}
use Rattle.pg_lex.specs.Faults.{place_of as lex_place}
use Rattle.pg_link.specs.declared.error.LinkError as errors
use Rattle.pg_link.specs.declared.error.LinkError.TheVariants as error
use Rattle.pg_link.specs.declared.walk.Asking as askings
use Rattle.pg_link.specs.declared.walk.SourceFile as kept
use Rattle.pg_link.specs.declared.walk.imports.ImportLine as lines
use Rattle.pg_link.specs.declared.walk.reading.NewFile as news
use Rattle.pg_link.specs.inner.Made.{line_of}
use Rattle.pg_link.specs.names.Outline.{file_imports}
use Rattle.pg_link.specs.declared.walk.Walk as walks
use Rattle.pg_link.specs.walk.FolderPath.{path_below}
use Rattle.pg_link.specs.names.Files.{Differ, InOrder, is_path_of, paths_of}
use Rattle.pg_link.specs.names.Names.{Text}
use Rattle.pg_link.specs.walk.PostOrder.{AreListed}
use Rattle.pg_link.specs.Sources.{also}
use Rattle.pg_link.specs.walk.Walk.{World, ImportsAt, MayBe, Comes, Entry, files_in_order, outlines, IsAsked, IsEntry, IsPlace, IsReadFault, syntax_place, HasNoTokens, HasNoTree}

-- files that were read, while the imports of these paths are followed
pub record IsSound (w : World) (open_paths : List Text) (entries : List Entry) : Type 0 where
  pub each : All (IsEntry w) entries
  pub in_order : InOrder (outlines entries)
  pub apart : Differ (open_paths ++ paths_of (outlines entries))
  pub few : length open_paths + length entries ≤ 1024

abbrev pub entries : walks.Walk → List Entry
entries walk = walk.files.entries

abbrev pub open_paths : walks.Walk → List Text
open_paths walk = reverse (map string_bytes walk.opened.keys)

abbrev pub has_path : walks.Walk → Text → Bool
has_path walk path = is_path_of (paths_of (outlines (entries walk))) path

-- the files that were read are still there, before those that have come
abbrev pub Extends : walks.Walk → walks.Walk → Type 0
Extends old new = (more : List Entry) × (entries new ≡ entries old ++ more)

-- a visit of these paths, after those in front, lists all that was read
abbrev pub VisitLists : (front visited : List Text) → walks.Walk → Type 0
VisitLists front visited walk = AreListed front visited (files_in_order (entries walk))

-- the paths that were read, in order
abbrev pub listed_paths : walks.Walk → List Text
listed_paths walk = paths_of (files_in_order (entries walk))

-- who asks for a path: an import of the file whose imports are followed, or the list of roots
abbrev pub Asks : World → List Text → Option askings.Asking → Text → Type 0
Asks w [] None path = Contains w.roots path
Asks w [] (Some a) path = ⊥
Asks w (p ∷ ps) None path = ⊥
Asks w (p ∷ ps) (Some a) path = (a.file.now ≡ p) × ImportsAt w p a.text.now a.at path × Comes w ps p

-- a fault of the file's own bytes
abbrev pub IsTextFault : Text → Text → errors.LinkError → Type 0
IsTextFault path text (error.Lex e place) = IsPlace place path text (lex_place e) × HasNoTokens e text
IsTextFault path text (error.Syntax e place) = IsPlace place path text (syntax_place e) × HasNoTree e text
IsTextFault path text error.Memory = Unit {0}
IsTextFault path text _ = ⊥

-- a fault of reading a path below a folder, of what the source may give and lack, where so many other files are there
abbrev pub IsNewFault : (Text → Text → Bool) → (Text → Bool) → Text → ℕ → Option askings.Asking → Text
    → errors.LinkError → Type 0
IsNewFault give lack folder others asking path (error.TooManyFiles place) = IsAsked place asking path × (1024 ≤ others)
    × ((text : Text) × IsTrue (give (path_below folder path) text))
IsNewFault give lack folder others asking path (error.Lex e place) =
    (text : Text) × IsTrue (give (path_below folder path) text) × IsTextFault path text (error.Lex e place)
IsNewFault give lack folder others asking path (error.Syntax e place) =
    (text : Text) × IsTrue (give (path_below folder path) text) × IsTextFault path text (error.Syntax e place)
IsNewFault give lack folder others asking path e = IsReadFault lack folder asking path e

-- a fault of an import of this path, after imports of these
abbrev pub IsImportFault : List Text → List Text → askings.Asking → Text → errors.LinkError → Type 0
IsImportFault opened before a path (error.ImportCycle place) = IsPlace place a.file.now a.text.now a.at
    × (is_path_of opened path ≡ true)
IsImportFault opened before a path (error.DuplicateImport place) = IsPlace place a.file.now a.text.now a.at
    × (is_path_of before path ≡ true)
IsImportFault opened before a path error.Memory = Unit {0}
IsImportFault opened before a path _ = ⊥

-- the file was appended where it wasn't there
abbrev pub ComesLast : (old new : walks.Walk) → Text → kept.SourceFile → Type 0
ComesLast old new path file = has_path old path ≡ false
    → (name : String Global) × (string_bytes name ≡ path) × (entries new ≡ entries old ++ (name, file) ∷ [])

-- what was read is sound, and the path is asked for where the walk is
pub record Follows (w : World) (walk : walks.Walk) (asking : Option askings.Asking) (path : Text) : Type 0 where
  pub is_sound : IsSound w (open_paths walk) (entries walk)
  pub asks : Asks w (open_paths walk) asking path

-- the paths that a new file imports
abbrev pub lines_paths : news.NewFile → List Text
lines_paths new = map (λ (l : lines.ImportLine). string_bytes l.path) new.lines.items

-- what was read is sound, and the walk is where the imports of this file are followed
pub record Imports (w : World) (walk : walks.Walk) (path : Text) (new : news.NewFile) : Type 0 where
  pub before : List Text
  pub opened : open_paths walk ≡ path ∷ before
  pub comes : Comes w before path
  pub is_sound : IsSound w (open_paths walk) (entries walk)
  pub may_be : MayBe w path new.file.bytes.items new.file.tree
  pub its : map line_of new.lines.items ≡ file_imports new.file.tree

-- the path is open, or its file was read
abbrev pub is_begun : walks.Walk → Text → Bool
is_begun walk path = is_path_of (open_paths walk) path || has_path walk path

-- the source was asked for these paths below the folder, for none twice, and for none that was begun before
pub record ReadsNew (folder : Text) (before after : Option (List Text)) (old : walks.Walk) : Type 0 where
  pub added : List Text
  pub adds : after ≡ also (map (path_below folder) added) before
  pub apart : Differ added
  pub is_new : (path : Text) → is_path_of added path ≡ true → is_begun old path ≡ false

-- and the files of these paths have come
pub record ReadsAll (folder : Text) (before after : Option (List Text)) (old new : walks.Walk) : Type 0 where
  pub reads : ReadsNew folder before after old
  pub count : length (entries new) ≡ length (entries old) + length reads.added
  pub each : (path : Text) → has_path new path ≡ (has_path old path || is_path_of reads.added path)
