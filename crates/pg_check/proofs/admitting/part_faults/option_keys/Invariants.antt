use Rattle.std.proofs.Common.{◌≡◌, map, take}
use Rattle.pg_check.specs.admitting.DeclaredParts.{option_key}
use Rattle.pg_check.proofs.admitting.part_faults.option_keys.Given as goal

abbrev pub invariant-loop-option : goal.invariant-loop-option
invariant-loop-option l = l.keys.items ≡ map option_key (take l.option-index l.options)
