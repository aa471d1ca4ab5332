use Rattle.std.proofs.Common.{◌≡◌, map, take}
use Rattle.pg_check.specs.parts.MadeEnums.{made_values, value}
use Rattle.pg_check.proofs.parts.made_enum.made_values.Given as goal

abbrev pub invariant-loop-part : goal.invariant-loop-part
invariant-loop-part l = map value l.values.items ≡ made_values (take l.part-index l.body)
