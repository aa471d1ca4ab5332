use Rattle.std.proofs.Common.{◌≡◌, map, drop}
use Rattle.pg_dyn.specs.views.ViewNames.{has_name, named}
use Rattle.pg_pairs.proofs.views.names.has_name.Given as goal

abbrev pub invariant-loop-value : goal.invariant-loop-value
invariant-loop-value l = has_name (map named (drop l.value-index l.values)) l.number l.name ≡ has_name (map named l.values) l.number l.name
