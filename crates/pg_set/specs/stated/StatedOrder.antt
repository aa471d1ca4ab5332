-- The order of a set's files as a function: post-order of imports, begun at the files in their order (this profile's
-- choice).
use Rattle.std.specs.Prelude.{ℕ, zero, suc, Bool, ◌&&◌, List, [], ◌∷◌, ◌++◌, find, length, map, Option, Some, None, option_map, if◌then◌else◌}
use Rattle.std.specs.List.{list_all}
use Rattle.std.specs.Option.{option_and_then}
use Rattle.std.specs.Str.{bytes_eq}
use Rattle.pg_schema.specs.rules.Pairs.{are_distinct}
use Rattle.pg_schema.specs.rules.TextSets.{is_among}
use Rattle.pg_dyn.specs.message.Message.{Message}
use Rattle.pg_set.specs.stated.PostOrder.{Importer, importer_of, imports_at, imports_once, paths_of}
use Rattle.pg_set.specs.declared.descriptor.proto.TheConstants as proto
use Rattle.pg_set.specs.stated.SetMessages.{text_at}
use Rattle.pg_set.specs.stated.StatedNames.{each, only_if}

abbrev pub Paths : Type 0
Paths = List (List ℕ)

-- ---- visits

-- What is listed once a path was visited, where those in front are listed already. One that is listed is passed over.
-- Any other is listed after all that it leads to, which are visited first. Nothing where it isn't there, or where one
-- of these visits comes to nothing.
abbrev pub visit_one : (visit_inside : Paths → Paths → Option Paths) → (leads : List ℕ → Option Paths) → (front : Paths)
    → List ℕ → Option Paths
visit_one visit_inside leads front x = if is_among front x then Some front else option_map (λ listed. listed ++ x ∷ []) (option_and_then (visit_inside front) (leads x))

-- once each was visited, in order
abbrev pub visit_each : (visit_inside : Paths → Paths → Option Paths) → (leads : List ℕ → Option Paths)
    → (front visited : Paths) → Option Paths
visit_each visit_inside leads front [] = Some front
visit_each visit_inside leads front (x ∷ xs) =
    option_and_then (λ listed. visit_each visit_inside leads listed xs) (visit_one visit_inside leads front x)

-- The same, where paths lead on at most so deep: below that nothing may be visited.
abbrev pub visit : (depth : ℕ) → (leads : List ℕ → Option Paths) → (front visited : Paths) → Option Paths
visit zero leads front [] = Some front
visit zero leads front (x ∷ xs) = None
visit (suc depth) leads front visited = visit_each (visit depth leads) leads front visited

-- ---- files

-- The paths of the files in post-order of imports, begun at the files in their order. Nothing where a path occurs
-- twice, among the files or among the imports of one, where an import isn't there, or where imports lead back. Where
-- they don't, they lead no deeper than there are files.
abbrev pub paths_in_post_order : List Importer → Option Paths
paths_in_post_order files =
    only_if (are_distinct (paths_of files) && list_all imports_once files) (visit (length files) (imports_at files) [] (paths_of files))

-- the first file of that path
abbrev pub file_at : List Message → List ℕ → Option Message
file_at files path = find (λ m. bytes_eq (text_at proto.FILE_NAME m) path) files

-- the files in that order
abbrev pub in_post_order : (skips : Bool) → List Message → Option (List Message)
in_post_order skips files = option_and_then (each (file_at files)) (paths_in_post_order (map (importer_of skips) files))
