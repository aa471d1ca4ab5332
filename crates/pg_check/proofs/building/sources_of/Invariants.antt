use Rattle.std.proofs.Common.{◌≡◌, map, take}
use Rattle.pg_check.specs.parts.Sources.{linked_source}
use Rattle.pg_check.specs.inner.Sources.{source}
use Rattle.pg_check.proofs.building.sources_of.Given as goal

abbrev pub invariant-loop-number : goal.invariant-loop-number
invariant-loop-number l = map source l.sources.items ≡ map (linked_source l.linked.files) (take l.number l.linked.files)
