-- Files by their indices.
use Rattle.std.specs.Prelude.{ℕ, List, [], ◌≡◌, false, ◌⊎◌, map, ◌↔◌, Some, slice_get, String}
use Rattle.std.specs.Str.{bytes_eq}
use Rattle.std.specs.List.{list_all}
use Rattle.std.specs.BTreeMap.{BTreeMap, get_by_text}
use Rattle.std.specs.Option.{unwrap_or}
use Rattle.pg_schema.specs.rules.Pairs.{are_distinct}
use Rattle.pg_schema.specs.standing.Visits.{Visits}
use Rattle.pg_set.specs.stated.PostOrder.{imports_at, paths_of, Importer, imports_once}
use Rattle.pg_set.specs.declared.reading.order.Importing.{Importing}
use Rattle.pg_set.specs.inner.Lent.{lent}

-- these are the paths of the files in post-order of imports, which is begun at the files in their order
abbrev pub IsPostOrder : List Importer → List (List ℕ) → Type 0
IsPostOrder files paths = Visits bytes_eq (imports_at files) [] (paths_of files) paths

-- a path occurs twice among the files, or among the imports of one, or they have no post-order: an import isn't there,
-- or imports lead back
abbrev pub HasNoOrder : List Importer → Type 0
HasNoOrder files =
    (are_distinct (paths_of files) ≡ false) ⊎ (list_all imports_once files ≡ false)
    ⊎ ((paths : List (List ℕ)) → IsPostOrder files paths → ⊥)

abbrev pub importer : Importing → Importer
importer i = record { path = i.name.now; imports = lent i.paths.items }

abbrev pub importers : List Importing → List Importer
importers files = map importer files

-- the map has the index of each path, and no other
abbrev pub IsIndex : {Y : Type 0} → List (List ℕ) → BTreeMap (String Y) ℕ → Type 0
IsIndex paths index =
    (path : List ℕ) (place : ℕ) → (get_by_text index path ≡ Some place) ↔ (slice_get paths place ≡ Some path)

-- at these indices are these paths
abbrev pub StandAt : List (List ℕ) → (places : List ℕ) → List (List ℕ) → Type 0
StandAt paths places these = map (slice_get paths) places ≡ map Some these

-- the indices of what each file imports
abbrev pub ImportsAt : List Importer → List (List ℕ) → Type 0
ImportsAt files all = map (map (slice_get (paths_of files))) all ≡ map (λ (i : Importer). map Some i.imports) files

-- the path at an index
abbrev pub name_at : List (List ℕ) → ℕ → List ℕ
name_at paths place = unwrap_or (slice_get paths place) []
