use Rattle.std.proofs.Common.{◌≡◌, Some, map, take}
use Rattle.pg_set.specs.inner.reading.OutlinedPlaces.{placed_file}
use Rattle.pg_set.specs.stated.StatedFiles.{file}
use Rattle.pg_set.specs.stated.StatedNames.{each}
use Rattle.pg_set.specs.stated.Views.{file_view}
use Rattle.pg_set.proofs.reading.made_parts.all_files.Given as goal

abbrev pub invariant-loop-one : goal.invariant-loop-one
invariant-loop-one l = each (file l.skips) (map placed_file (take l.one-index l.outlined)) ≡ Some (map file_view l.files.items)
