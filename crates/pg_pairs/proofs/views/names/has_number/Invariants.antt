use Rattle.std.proofs.Common.{◌≡◌, map, drop}
use Rattle.pg_dyn.specs.views.ViewNames.{declares, named}
use Rattle.pg_pairs.proofs.views.names.has_number.Given as goal

abbrev pub invariant-loop-value : goal.invariant-loop-value
invariant-loop-value l = declares (map named (drop l.value-index l.values)) l.number ≡ declares (map named l.values) l.number
