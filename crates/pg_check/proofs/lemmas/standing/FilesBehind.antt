-- Linked files: each imports no path twice, and comes after those that it imports.
use Rattle.std.proofs.Common.{◌≡◌, ◌∙◌, ℕ, Bool, true, false, not, ◌||◌, List, [], ◌∷◌, ◌++◌, map, flat_map, reverse, Option, refl, sym, ap, ap₂, subst, arith, rules}
use Rattle.std.specs.Bool.{⊤}
use Rattle.std.specs.List.{AllByRecursion, list_all, list_any}
use Rattle.std.specs.Str.{bytes_eq}
use Rattle.std.specs.String.{string_bytes}
use Rattle.std.proofs.lemmas.List.{append-nil, append_assoc, map-append, reverse-append, reverse-reverse}
use Rattle.std.proofs.lemmas.List.Elements.{recursion_from_All}
use Rattle.std.proofs.lemmas.List.Folds.{list_all-map, list_any-append}
use Rattle.std.proofs.lemmas.Simd.{map-map}
use Rattle.pg_schema.specs.declared.parts.file.File as schema
use Rattle.pg_schema.specs.declared.parts.file.Import.{Import}
use Rattle.pg_schema.specs.declared.parts.Parts.{Parts}
use Rattle.pg_schema.specs.rules.Pairs.{are_distinct, differ}
use Rattle.pg_schema.specs.rules.TextSets.{is_among}
use Rattle.pg_schema.proofs.lemmas.rules.PairLemmas.{and_both}
use Rattle.pg_link.specs.names.Files.{Differ, File, InOrder, import_paths, is_path_of, paths_of as linked_paths}
use Rattle.pg_link.specs.Linked.{IsLinkedUp, LinkedFiles}
use Rattle.pg_link.specs.names.Outline.{file_imports, imports_in, statements_behind as linked_behind}
use Rattle.pg_link.specs.walk.Walk.{Entry, outline, path_of}
use Rattle.pg_check.specs.Declares.{Declares}
use Rattle.pg_check.specs.parts.MadeFiles.{MadeImport, import_in, made_imports}
use Rattle.pg_check.specs.parts.MadeParts.{Declared, EachIs, FileShape, IsFileOf, Source, with_file, with_files}
use Rattle.pg_check.specs.rules.Outline.{statements_behind}
use Rattle.pg_check.specs.parts.Sources.{linked_sources}
use Rattle.pg_schema.specs.standing.Imports.{AreBehind, file_name, imports_apart}
use Rattle.pg_syntax.specs.declared.tree as tree
use Rattle.pg_check.proofs.lemmas.standing.UniqueNames.{neither}

-- ---- paths

-- a file by its path, with the paths that it imports
record Importer : Type 0 where
  pub path : List ℕ
  pub imports : List (List ℕ)

abbrev paths_of : List Importer → List (List ℕ)
paths_of files = map (λ (i : Importer). i.path) files

abbrev import_path : Import → List ℕ
import_path i = string_bytes i.path

abbrev file_importer : schema.File → Importer
file_importer f = record { path = file_name f; imports = map import_path f.imports.items }

none_alike : (path : List ℕ) (paths : List (List ℕ)) → list_any (bytes_eq path) paths ≡ false → list_all (differ path) paths ≡ true
none_alike path [] none = refl
none_alike path (p ∷ paths) none =
    let apart = neither (bytes_eq path p) (list_any (bytes_eq path) paths) none in
    and_both (differ path p) (list_all (differ path) paths) (ap not apart.0) (none_alike path paths apart.1)

distinct : (paths : List (List ℕ)) → Differ paths → are_distinct paths ≡ true
distinct [] apart = refl
distinct (p ∷ paths) apart = and_both (list_all (differ p) paths) (are_distinct paths) (none_alike p paths apart.0) (distinct paths apart.1)

or_turned : (a b : Bool) → (a || (b || false)) ≡ (b || a)
or_turned a b = grind arith

-- ---- files, the last first, by their paths and imports

abbrev outline_importer : File → Importer
outline_importer f = record { path = f.path; imports = import_paths f.imports }

last_first : (f : File) (files : List File) → map outline_importer (reverse (f ∷ files)) ≡ map outline_importer (reverse files) ++ outline_importer f ∷ []
last_first f files = ap (map outline_importer) (reverse-append (f ∷ []) files) ∙ map-append outline_importer (reverse files) (f ∷ [])

among_turned : (files : List File) (path : List ℕ) → is_among (paths_of (map outline_importer (reverse files))) path ≡ is_path_of (linked_paths files) path
among_turned [] path = refl
among_turned (f ∷ files) path = search (rules, last_first, map-append, reverse, list_any-append, or_turned, among_turned files path)

-- the file after those of these names
record Follows (names : List (List ℕ)) (i : Importer) : Type 0 where
  pub imports_once : are_distinct i.imports ≡ true
  pub imports_there : list_all (is_among names) i.imports ≡ true
  pub is_new : is_among names i.path ≡ false

-- each file after those of these names and the ones before it
abbrev AreListed : List (List ℕ) → List Importer → Type 0
AreListed names [] = ⊤
AreListed names (i ∷ is) = Follows names i × AreListed (names ++ i.path ∷ []) is

listed_more : (names : List (List ℕ)) (is : List Importer) (i : Importer) → AreListed names is → Follows (names ++ paths_of is) i → AreListed names (is ++ i ∷ [])
listed_more names [] i listed next = (subst (λ ns. Follows ns i) (append-nil names) next, tt)
listed_more names (x ∷ is) i listed next =
    (listed.0, listed_more (names ++ x.path ∷ []) is i listed.1 (subst (λ ns. Follows ns i) (sym (append_assoc names (x.path ∷ []) (paths_of is))) next))

all_there : (files : List File) (paths : List (List ℕ)) → AllByRecursion (λ path. is_path_of (linked_paths files) path ≡ true) paths
    → list_all (is_among (paths_of (map outline_importer (reverse files)))) paths ≡ true
all_there files [] there = refl
all_there files (p ∷ paths) there = search (rules, and_both, reverse, among_turned, all_there files paths there.1)

listed : (files : List File) → InOrder files → Differ (linked_paths files) → AreListed [] (map outline_importer (reverse files))
listed [] order apart = tt
listed (f ∷ files) order apart = search (rules, last_first, listed_more, distinct, all_there, recursion_from_All, among_turned, listed files order.2 apart.1)

-- ---- imports

abbrev made_path : MadeImport → List ℕ
made_path i = i.path

imports_are : (s : tree.Statement.Statement) → map made_path (import_in s) ≡ import_paths (imports_in s)
imports_are s = grind arith

all_imports_are : (ss : List tree.Statement.Statement) → map made_path (flat_map import_in ss) ≡ import_paths (flat_map imports_in ss)
all_imports_are [] = refl
all_imports_are (s ∷ ss) = search (rules, map-append, flat_map, imports_are, all_imports_are ss)

imports_behind : (p : Option tree.Packaged.Packaged) → map made_path (flat_map import_in (statements_behind p)) ≡ import_paths (flat_map imports_in (linked_behind p))
imports_behind p = grind (arith, all_imports_are)

made_imports_are : (file : tree.FileTree.FileTree) → map made_path (made_imports file) ≡ import_paths (file_imports file)
made_imports_are file = search (rules, map-append, flat_map, all_imports_are, imports_behind)

-- ---- the files of a schema are those that are linked, in order

abbrev tree_importer : List ℕ → tree.FileTree.FileTree → Importer
tree_importer path file = record { path = path; imports = import_paths (file_imports file) }

abbrev shape_importer : FileShape → Importer
shape_importer w = tree_importer w.path w.tree

abbrev source_importer : Source → Importer
source_importer s = tree_importer s.path s.tree

abbrev entry_importer : Entry → Importer
entry_importer e = tree_importer (path_of e) e.1.tree

shapes_are : (d : Declared) (ss : List Source) → map shape_importer (with_files d ss).files ≡ map shape_importer d.files ++ map source_importer ss
shapes_are d [] = sym (append-nil (map shape_importer d.files))
shapes_are d (s ∷ ss) = search (rules, map-append, append_assoc, shapes_are (with_file d s) ss)

file_is : (w : FileShape) (f : schema.File) → IsFileOf w f → file_importer f ≡ shape_importer w
file_is w f is = search (rules, map-map, made_imports_are)

files_are : (ws : List FileShape) (fs : List schema.File) → EachIs IsFileOf ws fs → map file_importer fs ≡ map shape_importer ws
files_are [] [] each = refl
files_are [] (f ∷ fs) each = absurd each
files_are (w ∷ ws) [] each = absurd each
files_are (w ∷ ws) (f ∷ fs) each = ap₂ (λ i is. i ∷ is) (file_is w f each.0) (files_are ws fs each.1)

text_files : (linked : LinkedFiles) (parts : Parts) → Declares (linked_sources linked.files) parts → map file_importer parts.files.items ≡ map entry_importer linked.files
text_files linked parts h = search (rules, files_are, shapes_are, map-map)

entries_turned : (es : List Entry) → map outline_importer (reverse (reverse (map outline es))) ≡ map entry_importer es
entries_turned es = ap (map outline_importer) (reverse-reverse (map outline es)) ∙ map-map outline_importer outline es

texts_listed : (linked : LinkedFiles) (parts : Parts) → IsLinkedUp linked → Declares (linked_sources linked.files) parts → AreListed [] (map file_importer parts.files.items)
texts_listed linked parts up h = search (rules, entries_turned, text_files, listed, reverse)

-- ---- what is said of them

all_once : (names : List (List ℕ)) (fs : List schema.File) → AreListed names (map file_importer fs) → list_all imports_apart fs ≡ true
all_once names [] listed = refl
all_once names (f ∷ fs) listed = and_both (imports_apart f) (list_all imports_apart fs) listed.0.imports_once (all_once (names ++ file_name f ∷ []) fs listed.1)

all_behind : (names : List (List ℕ)) (fs : List schema.File) → AreListed names (map file_importer fs) → AreBehind names fs
all_behind names [] listed = tt
all_behind names (f ∷ fs) listed = search (rules, list_all-map, listed, all_behind (names ++ file_name f ∷ []) fs listed.1)

-- no linked file imports a path twice
pub texts_import_once : (linked : LinkedFiles) (parts : Parts) → IsLinkedUp linked → Declares (linked_sources linked.files) parts → list_all imports_apart parts.files.items ≡ true
texts_import_once linked parts up h = all_once [] parts.files.items (texts_listed linked parts up h)

-- linked files have names of their own, and each comes after those that it imports
pub texts_stand_behind : (linked : LinkedFiles) (parts : Parts) → IsLinkedUp linked → Declares (linked_sources linked.files) parts → AreBehind [] parts.files.items
texts_stand_behind linked parts up h = all_behind [] parts.files.items (texts_listed linked parts up h)
