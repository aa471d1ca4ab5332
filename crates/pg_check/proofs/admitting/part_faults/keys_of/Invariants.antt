use Rattle.std.proofs.Common.{◌≡◌, map, take}
use Rattle.pg_check.specs.admitting.DeclaredParts.{key_of}
use Rattle.pg_check.proofs.admitting.part_faults.keys_of.Given as goal

abbrev pub invariant-loop-field : goal.invariant-loop-field
invariant-loop-field l = l.keys.items ≡ map key_of (take l.field-index l.fields)
