-- Files that come after those that they import are written in post-order of imports, begun at them in their order.
use Rattle.std.proofs.Common.{◌≡◌, ℕ, suc, Bool, true, false, not, ◌||◌, List, [], ◌∷◌, ◌++◌, length, map, Option, Some, slice_get, refl, ap, ap₂, sym, subst, ◌∙◌, rules}
use Rattle.std.proofs.lemmas.Bool.{false≢true}
use Rattle.std.proofs.lemmas.Slice.Eq.{bytes_eq-Decides}
use Rattle.std.proofs.lemmas.List.{append-nil, append_assoc, map-append}
use Rattle.std.proofs.lemmas.Simd.{map-map}
use Rattle.std.specs.List.{AllByRecursion, list_all}
use Rattle.std.specs.Str.{bytes_eq}
use Rattle.pg_schema.specs.declared.parts.file.File.{File}
use Rattle.pg_schema.specs.declared.parts.file.Import.{Import}
use Rattle.pg_schema.specs.rules.Pairs.{are_distinct, differ}
use Rattle.pg_schema.specs.rules.TextSets.{is_among}
use Rattle.pg_schema.proofs.lemmas.rules.PairLemmas.{among_push, and_both, and_left, and_right}
use Rattle.pg_schema.specs.standing.Imports.{AreBehind, file_name, imports_among, imports_apart}
use Rattle.pg_set.specs.writing.Places.{Declared}
use Rattle.pg_schema.specs.standing.Visits.{Visits, all_visited, listed_last, passed_over}
use Rattle.pg_set.specs.stated.PostOrder.{Importer, importer_of, imports_at, imports_once, kept_paths, paths_of}
use Rattle.pg_set.specs.inner.reading.FilePlaces.{IsPostOrder}
use Rattle.pg_set.specs.stated.SetMessages.{texts_at}
use Rattle.pg_set.specs.stated.StatedOrder.{in_post_order}
use Rattle.pg_set.proofs.lemmas.order.StatedOrder.{IsFile, file_named, files_ordered, name}
use Rattle.pg_set.proofs.lemmas.order.Visited.{among_last, imports_found}
use Rattle.pg_set.proofs.lemmas.written.WrittenFiles.{file_called, file_imports, file_written, path_of}

-- ---- the names of files

-- a name that is among those in front is none of the later files'
differs_behind : (names : List (List ℕ)) (name : List ℕ) (files : List File) → is_among names name ≡ true → AreBehind names files → list_all (differ name) (map file_name files) ≡ true
differs_behind names name [] among behind = refl
differs_behind names name (f ∷ fs) among behind =
    and_both (differ name (file_name f)) (list_all (differ name) (map file_name fs)) (of (bytes_eq name (file_name f)) refl)
    (differs_behind (names ++ file_name f ∷ []) name fs (among_push names (file_name f) name ∙ ap (λ b. b || bytes_eq name (file_name f)) among) behind.2)
  where
    of : (b : Bool) → bytes_eq name (file_name f) ≡ b → differ name (file_name f) ≡ true
    of true same = absurd (false≢true (sym behind.1 ∙ (ap (is_among names) (sym ((bytes_eq-Decides name (file_name f)).0 same)) ∙ among)))
    of false same = ap not same

files_distinct : (names : List (List ℕ)) (files : List File) → AreBehind names files → are_distinct (map file_name files) ≡ true
files_distinct names [] behind = refl
files_distinct names (f ∷ fs) behind =
    and_both (list_all (differ (file_name f)) (map file_name fs)) (are_distinct (map file_name fs))
    (differs_behind (names ++ file_name f ∷ []) (file_name f) fs (among_last names (file_name f)) behind.2) (files_distinct (names ++ file_name f ∷ []) fs behind.2)

-- ---- their order

abbrev file_importer : File → Importer
file_importer f = record { path = file_name f; imports = map path_of f.imports.items }

all_kept : (paths : List (List ℕ)) → kept_paths false paths ≡ paths
all_kept [] = refl
all_kept (p ∷ paths) = ap (λ ps. p ∷ ps) (all_kept paths)

paths_are : (files : List File) → paths_of (map file_importer files) ≡ map file_name files
paths_are files = map-map (λ (i : Importer). i.path) file_importer files

there : (front : List File) (f : File) (files : List File) → slice_get (map file_importer (front ++ f ∷ files)) (length front) ≡ Some (file_importer f)
there [] f files = refl
there (x ∷ front) f files = there front f files

module _ (all : List File) (behind : AreBehind [] all) where
  abbrev leads : List ℕ → Option (List (List ℕ))
  leads = imports_at (map file_importer all)

  abbrev Lists : (front visited listed : List (List ℕ)) → Type 0
  Lists front visited listed = Visits bytes_eq leads front visited listed

  -- imports that are there are passed over
  passed : (names : List (List ℕ)) (imports : List Import) → imports_among names imports ≡ true → Lists names (map path_of imports) names
  passed names [] among = all_visited names
  passed names (i ∷ imports) among =
      passed_over names (map path_of imports) names (path_of i) (and_left (is_among names (path_of i)) (imports_among names imports) among)
      (passed names imports (and_right (is_among names (path_of i)) (imports_among names imports) among))

  leads_at : (front : List File) (f : File) (files : List File) → front ++ f ∷ files ≡ all → leads (file_name f) ≡ Some (map path_of f.imports.items)
  leads_at front f files whole =
      imports_found (map file_importer all) (length front) (file_importer f) (ap are_distinct (paths_are all) ∙ files_distinct [] all behind)
      (subst (λ xs. slice_get (map file_importer xs) (length front) ≡ Some (file_importer f)) whole (there front f files))

  visited : (front files : List File) → front ++ files ≡ all → AreBehind (map file_name front) files → Lists (map file_name front) (map file_name files) (map file_name all)
  visited front [] whole later = subst (λ ns. Lists (map file_name front) [] ns) (ap (map file_name) (sym (append-nil front) ∙ whole)) (all_visited (map file_name front))
  visited front (f ∷ files) whole later =
      listed_last (map file_name front) (map path_of f.imports.items) (map file_name front) (map file_name files) (map file_name all) (file_name f) later.1 (leads_at front f files whole)
      (passed (map file_name front) f.imports.items later.0)
      (subst (λ ns. Lists ns (map file_name files) (map file_name all)) (map-append file_name front (f ∷ []))
      (visited (front ++ f ∷ []) files (append_assoc front (f ∷ []) files ∙ whole) (subst (λ ns. AreBehind ns files) (sym (map-append file_name front (f ∷ []))) later.2)))

  in_order : IsPostOrder (map file_importer all) (map file_name all)
  in_order = subst (λ ps. Lists [] ps (map file_name all)) (sym (paths_are all)) (visited [] all refl behind)

-- ---- what is written of them

abbrev with_imports : List ℕ → List (List ℕ) → Importer
with_imports path imports = record { path = path; imports = imports }

importers_are : (all : Declared) (fs : List File) → map (importer_of false) (map (file_written all) fs) ≡ map file_importer fs
importers_are all [] = refl
importers_are all (f ∷ fs) = ap₂ (λ i is. i ∷ is) (ap₂ with_imports (file_called all f) (all_kept (texts_at 3 (file_written all f)) ∙ file_imports all f)) (importers_are all fs)

names_are : (all : Declared) (fs : List File) → map name (map (file_written all) fs) ≡ map file_name fs
names_are all [] = refl
names_are all (f ∷ fs) = ap₂ (λ n ns. n ∷ ns) (file_called all f) (names_are all fs)

each_imports_once : (fs : List File) → list_all imports_apart fs ≡ true → list_all imports_once (map file_importer fs) ≡ true
each_imports_once [] apart = refl
each_imports_once (f ∷ fs) apart =
    and_both (imports_apart f) (list_all imports_once (map file_importer fs)) (and_left (imports_apart f) (list_all imports_apart fs) apart) (each_imports_once fs (and_right (imports_apart f) (list_all imports_apart fs) apart))

each_at : {A : Type 0} (P : A → Type 0) (xs : List A) → ((i : ℕ) (x : A) → slice_get xs i ≡ Some x → P x) → AllByRecursion P xs
each_at P [] one = tt
each_at P (x ∷ xs) one = (one 0 x refl, each_at P xs (λ i y is. one (suc i) y is))

-- the files of a schema in their order
pub written_in_order : (all : Declared) (fs : List File) → AreBehind [] fs → list_all imports_apart fs ≡ true → in_post_order false (map (file_written all) fs) ≡ Some (map (file_written all) fs)
written_in_order all fs behind apart = search (rules, file_written, files_distinct, files_ordered, importers_are, paths_are, each_imports_once, name, names_are, in_order, each_at, IsFile, file_named)
