use Rattle.std.proofs.Common.{◌≡◌, map, take}
use Rattle.pg_check.specs.inner.NameFaults.{titled}
use Rattle.pg_check.specs.admitting.DeclaredParts.{json_name_of}
use Rattle.pg_check.proofs.admitting.part_faults.json_names_of.Given as goal

abbrev pub invariant-loop-field : goal.invariant-loop-field
invariant-loop-field l = map titled l.list.items ≡ map json_name_of (take l.field-index l.fields)
