use Rattle.std.proofs.Common.{◌≡◌, drop}
use Rattle.pg_check.specs.parts.MadeOptions.{flag_of}
use Rattle.pg_check.proofs.parts.made_option.flag_of.Given as goal

abbrev pub invariant-loop-setting : goal.invariant-loop-setting
invariant-loop-setting l = flag_of l.name (drop l.setting-index l.settings) ≡ flag_of l.name l.settings
