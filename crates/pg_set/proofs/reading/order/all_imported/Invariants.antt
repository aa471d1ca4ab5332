use Rattle.std.proofs.Common.{◌≡◌, map, slice_get, take, true, Some}
use Rattle.std.specs.List.{list_all}
use Rattle.pg_set.specs.inner.reading.FilePlaces.{importers}
use Rattle.pg_set.specs.stated.PostOrder.{Importer, imports_once, paths_of}
use Rattle.pg_set.specs.inner.reading.Walks.{lists_of}
use Rattle.pg_set.proofs.reading.order.all_imported.Given as goal

abbrev pub invariant-loop-file : goal.invariant-loop-file
invariant-loop-file l = record {
  at : map (map (slice_get (paths_of (importers l.files)))) (lists_of l.all.items) ≡ map (λ (i : Importer). map (λ t. Some t) i.imports) (importers (take l.file-index l.files));
  once : list_all imports_once (importers (take l.file-index l.files)) ≡ true;
}
