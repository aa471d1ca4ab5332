use Rattle.std.proofs.Common.{◌≡◌, drop}
use Rattle.pg_check.specs.rules.Members.{given_json}
use Rattle.pg_check.proofs.rules.member.given_in.Given as goal

abbrev pub invariant-loop-setting : goal.invariant-loop-setting
invariant-loop-setting l = given_json (drop l.setting-index l.settings) ≡ given_json l.settings
