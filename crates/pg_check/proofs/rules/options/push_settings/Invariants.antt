use Rattle.std.proofs.Common.{◌≡◌, ◌++◌, map, take}
use Rattle.pg_check.specs.rules.Options.{in_brackets}
use Rattle.pg_check.specs.inner.OptionFaults.{stated}
use Rattle.pg_check.proofs.rules.options.push_settings.Given as goal

abbrev pub invariant-loop-setting : goal.invariant-loop-setting
invariant-loop-setting l = map stated l.list.items ≡ map stated l.fn.list.items ++ map (in_brackets l.owner) (take l.setting-index l.settings)
