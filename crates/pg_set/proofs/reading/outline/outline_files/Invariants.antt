use Rattle.std.proofs.Common.{◌≡◌, ◌≤◌, ◌^◌, ℕ, [], List, None, drop, filter, length, map, take}
use Rattle.std.specs.HashMap.{get_by_text}
use Rattle.std.specs.List.{AllByRecursion, flat_map}
use Rattle.pg_dyn.specs.message.Kept.{message_of}
use Rattle.pg_set.specs.inner.Declarations.{files_declared}
use Rattle.pg_set.specs.inner.reading.OutlinedRows.{NameOneofs, files_at, row, type_row}
use Rattle.pg_set.specs.stated.Outlines.{file_enums, file_services, file_types}
use Rattle.pg_set.specs.stated.Numbering.{behind_file, no_counts, placed_files, types_of_files}
use Rattle.pg_set.specs.inner.reading.OutlinedPlaces.{counts_behind, counts_of, placed_file, placed_type}
use Rattle.pg_set.specs.stated.SetMessages.{children_at}
use Rattle.pg_set.specs.stated.TypeMessages.{is_entry}
use Rattle.pg_set.proofs.lemmas.outline.Declaring.{Left}
use Rattle.pg_set.proofs.reading.outline.outline_files.Given as goal

abbrev pub invariant-loop-place : goal.invariant-loop-place
invariant-loop-place l = record {
  types : map type_row l.outline.types.items ≡ flat_map (file_types l.depth) (files_at (map message_of l.files) (take l.place-index l.order));
  enums : map row l.outline.enums.items ≡ flat_map (file_enums l.depth) (files_at (map message_of l.files) (take l.place-index l.order));
  services : map row l.outline.services.items ≡ flat_map file_services (files_at (map message_of l.files) (take l.place-index l.order));
  files : map placed_file l.outline.files.items ≡ placed_files l.depth no_counts (files_at (map message_of l.files) (take l.place-index l.order));
  placed : map placed_type l.outline.types.items ≡ types_of_files l.depth no_counts (files_at (map message_of l.files) (take l.place-index l.order));
  counts : counts_of l.outline ≡ counts_behind (behind_file l.depth) no_counts (files_at (map message_of l.files) (take l.place-index l.order));
  empty : (name : List ℕ) → get_by_text l.initial.outline.names name ≡ None;
  left : Left (files_declared l.depth (counts_of l.outline) (files_at (map message_of l.files) (drop l.place-index l.order))) (files_declared l.depth no_counts (files_at (map message_of l.files) l.order)) l.outline.names l.initial.outline.names;
  few_types : length l.outline.types.items ≤ 2 ^ 32;
  oneofs : AllByRecursion (λ m. NameOneofs l.depth (children_at 4 m)) (files_at (map message_of l.files) (take l.place-index l.order));
  no_entries : AllByRecursion (λ m. filter is_entry (children_at 4 m) ≡ []) (files_at (map message_of l.files) (take l.place-index l.order));
}
