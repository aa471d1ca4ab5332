use Rattle.std.proofs.Common.{◌≡◌, drop}
use Rattle.pg_check.specs.inner.MessageFaults.{first_packed}
use Rattle.pg_check.proofs.rules.message.packed_in.Given as goal

abbrev pub invariant-loop-setting : goal.invariant-loop-setting
invariant-loop-setting l = first_packed (drop l.setting-index l.settings) ≡ first_packed l.settings
