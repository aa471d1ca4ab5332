use Rattle.std.proofs.Common.{◌≡◌, map, take}
use Rattle.pg_check.specs.inner.NameFaults.{called}
use Rattle.pg_check.specs.admitting.DeclaredParts.{name_of}
use Rattle.pg_check.proofs.admitting.part_faults.names_of.Given as goal

abbrev pub invariant-loop-field : goal.invariant-loop-field
invariant-loop-field l = map called l.list.items ≡ map name_of (take l.field-index l.fields)
