use Rattle.std.proofs.Common.{◌≡◌, map, take}
use Rattle.pg_check.specs.inner.NameFaults.{called}
use Rattle.pg_check.specs.admitting.DeclaredParts.{value_name}
use Rattle.pg_check.proofs.admitting.enum_part_faults.names_of.Given as goal

abbrev pub invariant-loop-value : goal.invariant-loop-value
invariant-loop-value l = map called l.list.items ≡ map value_name (take l.value-index l.values)
