use Rattle.std.proofs.Common.{◌≡◌, map, take}
use Rattle.std.specs.String.{string_bytes}
use Rattle.pg_check.specs.rules.Enums.{reserved_names}
use Rattle.pg_check.proofs.rules.enumeration.reserved_names.Given as goal

abbrev pub invariant-loop-part : goal.invariant-loop-part
invariant-loop-part l = map string_bytes l.names.items ≡ reserved_names (take l.part-index l.body)
