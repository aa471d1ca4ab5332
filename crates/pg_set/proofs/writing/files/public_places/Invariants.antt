use Rattle.std.proofs.Common.{◌≡◌, ◌++◌, ◌<◌, ◌^◌, drop}
use Rattle.std.specs.List.{AllByRecursion}
use Rattle.pg_set.specs.writing.Set.{public_places}
use Rattle.pg_set.proofs.writing.files.public_places.Given as goal

abbrev pub invariant-loop-import : goal.invariant-loop-import
invariant-loop-import l = record {
  places : l.places.items ++ public_places l.next (drop l.import-index l.imports) ≡ public_places 0 l.imports;
  small : AllByRecursion (λ n. n < 2 ^ 31) l.places.items;
  place : l.next ≡ l.import-index;
}
