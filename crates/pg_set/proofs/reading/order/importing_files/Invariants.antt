use Rattle.std.proofs.Common.{◌≡◌, map, take}
use Rattle.pg_dyn.specs.message.Kept.{message_of}
use Rattle.pg_set.specs.inner.reading.FilePlaces.{importers}
use Rattle.pg_set.specs.stated.PostOrder.{importer_of}
use Rattle.pg_set.proofs.reading.order.importing_files.Given as goal

abbrev pub invariant-loop-file : goal.invariant-loop-file
invariant-loop-file l = importers l.found.items ≡ map (importer_of l.skips) (map message_of (take l.file-index l.files))
