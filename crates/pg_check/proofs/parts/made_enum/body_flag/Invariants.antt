use Rattle.std.proofs.Common.{◌≡◌, drop}
use Rattle.pg_check.specs.parts.MadeEnums.{body_flag}
use Rattle.pg_check.proofs.parts.made_enum.body_flag.Given as goal

abbrev pub invariant-loop-part : goal.invariant-loop-part
invariant-loop-part l = body_flag l.name (drop l.part-index l.body) ≡ body_flag l.name l.body
