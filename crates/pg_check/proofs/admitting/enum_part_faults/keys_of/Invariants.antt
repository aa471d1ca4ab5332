use Rattle.std.proofs.Common.{◌≡◌, map, take}
use Rattle.pg_check.specs.admitting.DeclaredParts.{value_key}
use Rattle.pg_check.proofs.admitting.enum_part_faults.keys_of.Given as goal

abbrev pub invariant-loop-value : goal.invariant-loop-value
invariant-loop-value l = l.keys.items ≡ map value_key (take l.value-index l.values)
