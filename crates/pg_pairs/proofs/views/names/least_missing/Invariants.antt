use Rattle.std.proofs.Common.{◌≡◌, map, drop}
use Rattle.pg_dyn.specs.views.ViewNames.{named}
use Rattle.pg_pairs.specs.views.LeastNumbers.{least_number, lesser_of}
use Rattle.pg_pairs.specs.inner.MissingNames.{missing_numbers}
use Rattle.pg_pairs.proofs.views.names.least_missing.Given as goal

abbrev pub invariant-loop-value : goal.invariant-loop-value
invariant-loop-value l =
    lesser_of l.least (least_number (missing_numbers l.zero (map named (drop l.value-index l.values)) (map named l.others)))
    ≡ least_number (missing_numbers l.zero (map named l.values) (map named l.others))
