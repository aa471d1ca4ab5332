use Rattle.std.proofs.Common.{◌≡◌, map, take}
use Rattle.pg_check.specs.parts.MadeServices.{made_methods, method}
use Rattle.pg_check.proofs.parts.made_service.made_methods.Given as goal
use Rattle.pg_check.specs.inner.Sources.{target_in}

abbrev pub invariant-loop-part : goal.invariant-loop-part
invariant-loop-part l = map method l.methods.items ≡ made_methods (target_in l.targets) (take l.part-index l.body)
