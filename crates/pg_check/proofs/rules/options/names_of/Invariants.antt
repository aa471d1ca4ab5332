use Rattle.std.proofs.Common.{◌≡◌, map, take}
use Rattle.pg_check.specs.inner.NameFaults.{titled}
use Rattle.pg_check.specs.rules.Options.{name_of}
use Rattle.pg_check.specs.inner.OptionFaults.{stated}
use Rattle.pg_check.proofs.rules.options.names_of.Given as goal

abbrev pub invariant-loop-option : goal.invariant-loop-option
invariant-loop-option l = map titled l.names.items ≡ map name_of (map stated (take l.option-index l.options))
