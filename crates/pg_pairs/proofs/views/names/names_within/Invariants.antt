use Rattle.std.proofs.Common.{◌≡◌, map, drop}
use Rattle.pg_dyn.specs.views.ViewNames.{named, names_within}
use Rattle.pg_pairs.proofs.views.names.names_within.Given as goal

abbrev pub invariant-loop-value : goal.invariant-loop-value
invariant-loop-value l =
    names_within (map named (drop l.value-index l.values)) (map named l.others) l.number
    ≡ names_within (map named l.values) (map named l.others) l.number
