use Rattle.std.proofs.Common.{map, take}
use Rattle.std.specs.String.{string_bytes}
use Rattle.pg_set.specs.inner.writing.MadeNames.{HasMade}
use Rattle.pg_set.proofs.writing.synthetic.set_of.Given as goal

abbrev pub invariant-loop-name : goal.invariant-loop-name
invariant-loop-name l = HasMade (map string_bytes (take l.name-index l.names)) l.set
