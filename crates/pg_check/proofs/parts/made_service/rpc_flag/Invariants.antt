use Rattle.std.proofs.Common.{◌≡◌, drop}
use Rattle.pg_check.specs.parts.MadeServices.{rpc_flag}
use Rattle.pg_check.proofs.parts.made_service.rpc_flag.Given as goal

abbrev pub invariant-loop-part : goal.invariant-loop-part
invariant-loop-part l = rpc_flag (drop l.part-index l.body) ≡ rpc_flag l.body
