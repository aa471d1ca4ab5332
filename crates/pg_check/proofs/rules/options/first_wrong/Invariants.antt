use Rattle.std.proofs.Common.{◌≡◌, map, drop}
use Rattle.pg_check.specs.inner.OptionFaults.{first_wrong, stated}
use Rattle.pg_check.proofs.rules.options.first_wrong.Given as goal

abbrev pub invariant-loop-option : goal.invariant-loop-option
invariant-loop-option l = first_wrong (map stated (drop l.option-index l.options)) ≡ first_wrong (map stated l.options)
