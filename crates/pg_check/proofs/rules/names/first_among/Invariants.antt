use Rattle.std.proofs.Common.{◌≡◌, map, drop}
use Rattle.std.specs.String.{string_bytes}
use Rattle.pg_check.specs.inner.NameFaults.{called, first_among}
use Rattle.pg_check.proofs.rules.names.first_among.Given as goal

abbrev pub invariant-loop-name : goal.invariant-loop-name
invariant-loop-name l = first_among (map string_bytes l.reserved) (map called (drop l.name-index l.names)) ≡ first_among (map string_bytes l.reserved) (map called l.names)
