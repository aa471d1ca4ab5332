use Rattle.std.proofs.Common.{map, take}
use Rattle.std.specs.String.{string_bytes}
use Rattle.pg_schema.specs.rules.TextSets.{IsSetOf}
use Rattle.pg_check.proofs.rules.names.set_of.Given as goal

abbrev pub invariant-loop-text : goal.invariant-loop-text
invariant-loop-text l = IsSetOf (map string_bytes (take l.text-index l.texts)) l.set
